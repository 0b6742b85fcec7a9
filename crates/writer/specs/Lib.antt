-- Bytes written over others; a writer's bytes.
pub mod Writing
pub mod Writers
