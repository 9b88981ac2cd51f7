pub mod IdsLoop
pub mod InventoryWriteLaws
