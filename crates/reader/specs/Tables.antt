-- The table of widths of each form. Definitions only. Assumes nothing.
use Rattle.cases.specs.Forms.{Form as Table, old_form, form2, newest}
use Rattle.reader.specs.declared.forms.Form.{Form}
use Rattle.reader.specs.declared.forms.Form.TheVariants.{Old, Two, Three}

abbrev pub table_of : Form → Table
table_of Old = old_form.1
table_of Two = form2.1
table_of Three = newest.1
