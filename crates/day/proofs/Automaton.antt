-- A list keeps every rule exactly if the automaton of specs/Automaton runs through it: windows of starts and stops, the
-- rules of an hour within them, both directions, and the day of a list.
pub mod Hours
pub mod Windows
pub mod Windowed
pub mod Stages
pub mod Nows
pub mod HoursLaws
pub mod Kept
pub mod Complete
pub mod Pasts
pub mod Aheads
pub mod Owns
pub mod Sound
pub mod Ruled
pub mod Literals
pub mod Keeping
pub mod Joined
