-- The states of the code and the steps of its engines. Of the public definitions only the relations of `Pieces` use them:
-- sealing, opening and the engines are defined without them.
pub mod States
pub mod Measures
pub mod CutBytes
pub mod Maskings
pub mod Masks
pub mod MessageKeys
pub mod Buffered
pub mod GcmStarts
pub mod Extents
pub mod Findings
pub mod Passes
pub mod Returns
pub mod PassSteps
pub mod Rules
