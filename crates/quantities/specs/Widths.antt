-- How many numbers a width holds. Definitions only. Assumes nothing.
use Rattle.std.specs.Prelude.{ℕ}

-- 16-bit numbers
abbrev pub words : ℕ
words = 65536
