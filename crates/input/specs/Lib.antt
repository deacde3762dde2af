-- What stands in the buffers.
pub mod Fed
