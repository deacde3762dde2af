pub mod Meet
