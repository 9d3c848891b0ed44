pub mod RowsSwapped
pub mod SlotsSwapped
