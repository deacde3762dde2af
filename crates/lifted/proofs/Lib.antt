-- Why lifted runs are the order as lifted.
pub mod Lifted
