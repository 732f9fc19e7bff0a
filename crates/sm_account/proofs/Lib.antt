pub mod StateLaws
pub mod ClaimLaws
pub mod StandLemmas
pub mod KeptLemmas
pub mod MakeLemmas
pub mod WriteLemmas
pub mod MomentLemmas
pub mod CallOutcomeLemmas
pub mod HandleLemmas
pub mod HandledLaws
pub mod HeldLemmas
pub mod CountLemmas
pub mod OpenLemmas
pub mod RoomLemmas
pub mod DoorLemmas
pub mod QuestionLemmas
pub mod ConsiderLemmas
pub mod ClaimedLemmas
pub mod EffortLemmas
pub mod AllowedLemmas
pub mod AnswerLemmas
pub mod TurnLemmas
pub mod MayLemmas
pub mod AccountLemmas
mod FreshLemmas
mod VouchLemmas
pub mod SeatTraceLaws
pub mod OriginLemmas
