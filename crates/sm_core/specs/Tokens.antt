-- That a token acts once on a secret while its version is kept: along a history no two entries add the version, and no
-- two give it its value, until an entry lets it go.
-- AWS Secrets Manager API Reference: PutSecretValue, UpdateSecret and RotateSecret (ClientRequestToken).
use Rattle.std.specs.Prelude.{◌≡◌, ◌≢◌, ℕ, ◌<◌, ◌≤◌, ⊤, Bool, true, false, not, ◌&&◌, nat_eq, List, [], ◌∷◌, Option, Some, None, IsSome, IsTrue}
use Rattle.sm_base.specs.declared.moment.Moment.{Moment}
use Rattle.sm_model.specs.declared.entry.Entry.{Entry}
use Rattle.sm_model.specs.declared.rows.Rows.{Rows}
use Rattle.sm_model.specs.declared.rows.SecretRow.{SecretRow}
use Rattle.sm_model.specs.declared.rows.VersionRow.{VersionRow}
use Rattle.sm_model.specs.declared.value.Value.{Value}
use Rattle.sm_model.specs.Versions.{has_version, is_kept}
use Rattle.sm_versions.specs.Versions.{version_of, value_of}
use Rattle.sm_table.specs.Changes.{row_with}
use Rattle.sm_table.specs.Sound.{Sound}
use Rattle.sm_core.specs.Effects.{effect}
use Rattle.sm_core.specs.Histories.{LegalEntry, Legal, InTime}

-- the secret with the serial is there
abbrev pub HasSecret : Rows → ℕ → Type 0
HasSecret rows serial = IsSome (row_with rows.secrets serial)

abbrev pub versions_in : Option SecretRow → List VersionRow
versions_in None = []
versions_in (Some row) = row.versions

-- the versions of the secret with the serial, and none where it is not there
abbrev pub versions_at : Rows → ℕ → List VersionRow
versions_at rows serial = versions_in (row_with rows.secrets serial)

-- the version, where there is one, need not be kept
abbrev pub need_not_stay : SecretRow → Moment → Option VersionRow → Bool
need_not_stay row moment None = false
need_not_stay row moment (Some version) = not (is_kept row moment version)

-- the secret was changed at the moment, and the token's version need not be kept then
abbrev pub goes_from : Option SecretRow → Moment → List ℕ → Bool
goes_from None moment token = false
goes_from (Some row) moment token =
    nat_eq row.changed.0 moment.0 && need_not_stay row moment (version_of row.versions token)

-- The entry lets the token's version go: it prunes, and in the secret as it changes it the version need not be kept.
abbrev pub lets_go : ℕ → List ℕ → Rows → Entry → Bool
lets_go serial token rows entry =
    entry.prunes
    && goes_from (row_with (effect rows (record entry { prunes = false })).secrets serial) entry.moment token

-- each version that was there and does not go is there, and each value that it had it has
pub record VersionsStay (goes : List ℕ → Bool) (old new : List VersionRow) : Type 0 where
  pub there : (token : List ℕ) → goes token ≡ false → IsTrue (has_version old token) → IsTrue (has_version new token)
  pub valued : (token : List ℕ) → (value : Value) → goes token ≡ false → value_of old token ≡ Some value
      → value_of new token ≡ Some value

-- No serial is given again: a secret that is there, and is no new one, was there, and its versions stay, but for those
-- that go.
pub record SecretsStay (goes : ℕ → List ℕ → Bool) (old new : Rows) : Type 0 where
  pub later : old.next ≤ new.next
  pub there : (serial : ℕ) → serial < old.next → HasSecret new serial → HasSecret old serial
  pub stay : (serial : ℕ) → serial < old.next → HasSecret new serial
      → VersionsStay (goes serial) (versions_at old serial) (versions_at new serial)

-- the entry adds the version of the token to the secret with the serial: it was not there before, and is there after it
pub record Adds (serial : ℕ) (token : List ℕ) (rows : Rows) (entry : Entry) : Type 0 where
  pub before : has_version (versions_at rows serial) token ≡ false
  pub after : has_version (versions_at (effect rows entry) serial) token ≡ true

-- the entry gives that version a value: one that it did not have before, also in the place of another
pub record Gives (serial : ℕ) (token : List ℕ) (rows : Rows) (entry : Entry) : Type 0 where
  pub value : Value
  pub before : value_of (versions_at rows serial) token ≢ Some value
  pub after : value_of (versions_at (effect rows entry) serial) token ≡ Some value

-- none of the entries does it, each at the rows of those before it, until one lets go
abbrev pub NeverUntil : (Rows → Entry → Bool) → (Rows → Entry → Type 0) → Rows → List Entry → Type 0
NeverUntil goes Does rows [] = ⊤
NeverUntil goes Does rows (entry ∷ entries) =
    goes rows entry ≡ false → (Does rows entry → ⊥) × NeverUntil goes Does (effect rows entry) entries

-- no two of the entries do it, unless one that comes in between or the second lets go: after one that does none does
abbrev pub AtMostOne : (Rows → Entry → Bool) → (Rows → Entry → Type 0) → Rows → List Entry → Type 0
AtMostOne goes Does rows [] = ⊤
AtMostOne goes Does rows (entry ∷ entries) =
    (Does rows entry → NeverUntil goes Does (effect rows entry) entries)
    × AtMostOne goes Does (effect rows entry) entries

-- a legal entry leaves the versions of each secret that stays, and their values, but for those that it lets go
abbrev pub LegalKeepsVersions : Type 0
LegalKeepsVersions =
    (rows : Rows) → (entry : Entry) → Sound rows → LegalEntry rows entry
    → SecretsStay (λ serial token. lets_go serial token rows entry) rows (effect rows entry)

-- along a legal history no two entries add the version of a token to a secret, and no two give it its value, while it
-- is kept
abbrev pub TokensActOnce : Type 0
TokensActOnce =
    (rows : Rows) → (before : Moment) → (entries : List Entry) → Sound rows → Legal rows before entries → InTime entries
    → (serial : ℕ) → (token : List ℕ)
    → AtMostOne (lets_go serial token) (Adds serial token) rows entries
    × AtMostOne (lets_go serial token) (Gives serial token) rows entries
