mod Rising
mod PlacesSorted
mod Shaped
mod Ordering
mod PlansAreOne
pub mod Leading
mod Sorting
mod Graphs
pub mod Telling
mod Finding
pub mod CalledAfter
pub mod Due
pub mod Ended
pub mod Fitting
pub mod Heads
pub mod Journals
pub mod ListsOfEntries
pub mod Named
pub mod PlannedFounded
pub mod Told
pub mod WholeReports
mod AskedAlike
mod Answered
mod AppliedCalls
mod Called
mod Instance
mod Keys
mod PlannedParts
mod RequestedAsPlanned
mod Steps
pub mod Knowing
pub mod Lists
pub mod Settled
pub mod Decided
pub mod Members
pub mod Places
pub mod Fine
pub mod Still
pub mod Standing
pub mod Origins
pub mod Declared
pub mod OneRecord
pub mod Resting
pub mod Well
pub mod Events
pub mod Agree
pub mod Answers
pub mod Laid
pub mod Applied
pub mod After
pub mod Requested
pub mod Stored
pub mod Stands
pub mod Grown
pub mod Rests
pub mod Whole
pub mod Unrefused
pub mod Again
pub mod Quiet
pub mod Flagless
pub mod Tied
pub mod Renewals
pub mod Depends
pub mod Anew
pub mod Homes
pub mod Stays
pub mod Outputs
pub mod Valued
pub mod Twice
pub mod Thrice
pub mod Read
mod Reading
mod Ranking
mod Planning
mod Complete
mod Settling
mod Alike
mod Applying
mod UnrefusedTexts
mod Once
mod Refusing
mod DecidedChecks
mod Circles
mod ToldOf
mod OneOfTwo
mod TextsAgain
mod Counted
mod Faultless
mod PlannedOverTexts
mod Refused
mod Schemas
mod Unplanned
mod OwnParts
mod Needing
mod KnownParts
mod AskedGrowing
mod AskedAsPlanned
