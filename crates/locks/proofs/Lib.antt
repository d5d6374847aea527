-- Laws behind the kept rows of a lock.
pub mod LockedLaws
pub mod HeldLaws
pub mod PutLaws
