-- Laws of the definitions, and the promises.
pub mod LeavesLaws
pub mod BothLaws
pub mod NextLaws
pub mod RowsLaws
pub mod PricesLaws
pub mod ForecastLaws
pub mod Days
pub mod Promises
