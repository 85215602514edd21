pub mod Returns
pub mod LabReturns
