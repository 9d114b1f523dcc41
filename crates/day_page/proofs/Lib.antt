pub mod RowByRow
pub mod Pages
