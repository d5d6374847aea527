-- Laws of the text of a file.
pub mod PlanLaws
