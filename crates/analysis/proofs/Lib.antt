-- From one edge to whole calls: merge, arrival, edges passed over, iterations, the start; then the words at exit and at
-- entry, and sizes.
pub mod Merges
pub mod Arrival
pub mod Chaining
pub mod PassedEdges
pub mod Iterations
pub mod StartWords
pub mod MemoryAtExit
pub mod RunEntry
pub mod ChartSizes
