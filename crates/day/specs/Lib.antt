-- The rules of a list and what it earns.
pub mod Marks
pub mod Constraints
pub mod Rules
pub mod Profit
-- The same said a second way, and what holds of the definitions: to be read, not believed.
pub mod Words
pub mod Automaton
pub mod Promises
