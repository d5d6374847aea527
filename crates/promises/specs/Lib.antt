-- What follows from the definitions together.
pub mod Next
pub mod Forecast
pub mod Days
pub mod Promises
