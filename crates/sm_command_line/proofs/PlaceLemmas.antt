-- It does not matter where the names of the modes lie.
use Rattle.std.proofs.Common.{◌≡◌, ◌∙◌, refl, ap, List, [], drop, true}
use Rattle.std.specs.List.{list_any}
use Rattle.std.specs.Str.{bytes_eq}
use Rattle.clap.proofs.WalkLemmas.{list_any-map}
use Rattle.clap.specs.Simple.{built, filled, with_index}
use Rattle.clap.specs.Words.{App, Rule, Text, fault_of, is_simple, is_simple_and_free, matches_of}
use Rattle.sm_command_line.specs.Command.{AreModeNames, IsApp, Names, app, app_at, faults, found, mode_rule, placeless_names}
use Rattle.sm_command_line.proofs.SameFaults.{built_fault-same}
use Rattle.sm_command_line.proofs.SameWalk.{rows_after-same}

is_simple-app_at : (names : Names) → is_simple (app_at names) ≡ true
is_simple-app_at names = refl

is_simple_and_free-app_at : (names : Names) → is_simple_and_free (app_at names) ≡ true
is_simple_and_free-app_at names = refl

pub is_simple-app : (a : App) → IsApp a → is_simple a ≡ true
is_simple-app a is = ap is_simple is.2 ∙ is_simple-app_at is.0

pub is_simple_and_free-app : (a : App) → IsApp a → is_simple_and_free a ≡ true
is_simple_and_free-app a is = ap is_simple_and_free is.2 ∙ is_simple_and_free-app_at is.0

-- the rules of the command as it is built: that of `--mode` with other names, and the rest
abbrev mode_built : Rule
mode_built = with_index 1 (filled (mode_rule placeless_names))

abbrev others_built : List Rule
others_built = drop 1 (built app).top.rules

-- the names decide alone which modes are accepted
accepted : (names : Names) → AreModeNames names → (text : Text)
    → list_any (λ name. bytes_eq name.now text) names.now
    ≡ list_any (λ name. bytes_eq name.now text) placeless_names.now
accepted names are text = list_any-map (λ name. bytes_eq name text) (λ name. name.now) names.now
    ∙ ap (list_any (λ name. bytes_eq name text)) are

fault_of-app_at : (names : Names) (words : List Text) → AreModeNames names
    → fault_of (app_at names) words ≡ faults words
unfolding faults
fault_of-app_at names words are =
    built_fault-same mode_built others_built names placeless_names (accepted names are) (built app).top words

matches_of-app_at : (names : Names) (words : List Text) → AreModeNames names
    → matches_of (app_at names) words ≡ found words
unfolding found
matches_of-app_at names words are =
    rows_after-same mode_built others_built names placeless_names [] words

pub fault_of-app : (a : App) (words : List Text) → IsApp a → fault_of a words ≡ faults words
fault_of-app a words is = ap (λ x. fault_of x words) is.2 ∙ fault_of-app_at is.0 words is.1

pub matches_of-app : (a : App) (words : List Text) → IsApp a → matches_of a words ≡ found words
matches_of-app a words is = ap (λ x. matches_of x words) is.2 ∙ matches_of-app_at is.0 words is.1
