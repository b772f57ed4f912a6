pub mod WorkloadAccepted
pub mod WorkloadFile
pub mod WorkloadPieces
pub mod WorkloadProgram
pub mod WorkloadTest
pub mod WorkloadTokens
pub mod WorkloadTree
