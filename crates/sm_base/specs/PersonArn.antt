-- ARNs of persons.
-- IAM User Guide: "IAM identifiers".
use Rattle.std.specs.Prelude.{ℕ, Bool, ◌&&◌, ◌==◌, nat_eq, List, take, drop, codes, slice_index}
use Rattle.std.specs.Char.{is_ascii_digit}
use Rattle.std.specs.List.{list_all, starts_with}
use Rattle.sm_base.specs.Spelling.{is_token_byte, is_run}

-- an ARN of a person, arn:aws:iam::<12 digits>:<1 to 128 characters from ! to ~>: what stands before the name are 26
-- characters from ! to ~ too
unfoldable pub is_person_arn : List ℕ → Bool
is_person_arn text =
    is_run is_token_byte 27 154 text && starts_with nat_eq text (codes "arn:aws:iam::")
    && list_all is_ascii_digit (take 12 (drop 13 text)) && slice_index text 25 == 58
