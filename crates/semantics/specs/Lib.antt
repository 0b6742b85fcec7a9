-- To be believed, in this order, each close to document 01 and, of document 02, to 2.1, 2.2, 2.3, 2.6 and 2.9: lists, the numbers under their names, text, the chart file, the algorithm and its domain
-- of constants, runs and what covers them, the encoded chart, memory, listing and path, the search for a run and its listing, calls, why an iteration ends, what a path says,
-- what a found run is, whole walks, the program. Then claims of these definitions that the others do not rest on: ProgramSafe, StartThenRun,
-- Exact, Runs, MarkedCases. Last what only proofs use, and contracts of inner functions: Laws, Tidy, Rendering, Operations. Nothing in
-- these four has to be believed.
pub mod Lists
pub mod Layout
pub mod Text
pub mod Chart
pub mod Reading
pub mod Algorithm
pub mod Constants
pub mod Coverage
pub mod Encoding
pub mod Memory
pub mod Listing
pub mod Path
pub mod Search
pub mod RunListing
pub mod Outcomes
pub mod Refusals
pub mod Verdicts
pub mod PathHolds
pub mod RealRuns
pub mod WholeWalks
pub mod Program
pub mod ProgramSafe
pub mod StartThenRun
pub mod Exact
pub mod Runs
pub mod MarkedCases
pub mod Laws
pub mod Tidy
pub mod Rendering
pub mod Operations
