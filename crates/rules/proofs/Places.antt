-- The places that the rules let pass (demand 3, quoted in `specs/Places`), of single packets: the definitions are those of
-- `specs/Places.antt`, and the room above says the same of a whole span of calls. To be read in this order. Assumes nothing.

-- which places are among the passed ones, and which lie near
pub mod Among
-- counting the places that have not passed
pub mod Counting
-- which packets pass
pub mod Passing
-- the sum closes, of the definitions alone
pub mod Sum
-- what the window has left is left for good
pub mod Left
-- no other place with a packet's number is nearer, and d leads to it
pub mod Nearest
-- the marks show which places of the window have passed
pub mod Shown
-- a step of the vector rule obeys the places, and so does the first packet
pub mod Step
pub mod First
-- the places below the first packet's: they are a part of those lost, and what is kept of the first place finds them
pub mod Parts
pub mod Before
-- document 01's figures
pub mod Example
