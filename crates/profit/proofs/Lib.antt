-- The profit of a day, hour by hour.
pub mod EarnedLaws
