-- A command without subcommands finds at most one thing wrong with words.
use Rattle.std.proofs.Common.{◌≡◌, ◌+◌, ◌==◌, ◌&&◌, ◌||◌, ℕ, Bool, zero, suc, true, false, not, List, [], ◌∷◌, Option}
use Rattle.std.proofs.Common.{Some, None, is_some, length, drop, if◌then◌else◌, nat_lt}
use Rattle.std.specs.Prelude.{⊤, encode_utf8, min, slice_get}
use Rattle.std.specs.Option.{option_map_or}
use Rattle.std.specs.Str.{bytes_eq, chars}
use Rattle.clap.specs.Facts.{parser_of_value, unwrap_or_range}
use Rattle.clap.specs.Faults.{action_fault, built_fault, bundle_fault, bundle_step_fault, count_fault, default_fault}
use Rattle.clap.specs.Faults.{defaults_fault, entered_fault, flag_word_fault, flags_fault, level_fault, long_fault}
use Rattle.clap.specs.Faults.{option_fault, other_fault, positional_fault, react_fault, set_fault, settle_fault}
use Rattle.clap.specs.Faults.{short_fault, step_fault, stray_fault, turn_fault, use_fault, values_fault, walk_fault}
use Rattle.clap.specs.Faults.{word_fault}
use Rattle.clap.specs.Kinds.{Kinds, check_kinds, or_else, range_kinds, request_kinds, value_kinds, values_kinds}
use Rattle.clap.specs.Lexer.{long_of, short_of}
use Rattle.clap.specs.Matches.{count_text}
use Rattle.clap.specs.Simple.{Shape, entered}
use Rattle.clap.specs.ValueTests.{accepts}
use Rattle.clap.specs.Walk.{Held, Row, Rule, Step, Text, Waiting, Walk, action_of, arg_by_id, arg_by_index}
use Rattle.clap.specs.Walk.{arg_by_long, arg_by_short, attached_value, count_of, has_row, idle, is_empty, is_pending}
use Rattle.clap.specs.Walk.{most_values, next, nothing_held, option, positional, reacted, settled, subcommand}
use Rattle.clap.specs.Walk.{takes_several, takes_values, trailing, value, values_or_missing, walk, walk_from, walked}
use Rattle.clap.specs.Walk.{with_default, word_met}
use Rattle.clap.specs.declared.builder.action.ArgAction.{ArgAction}
use Rattle.clap.specs.declared.builder.action.ArgAction.TheVariants.{Append, Count, Help, HelpLong, HelpShort, Set}
use Rattle.clap.specs.declared.builder.action.ArgAction.TheVariants.{SetFalse, SetTrue, Version}
use Rattle.clap.specs.declared.builder.value_parser.ValueParser.{ValueParser}

-- at most one kind
abbrev pub IsSingle : Kinds → Type 0
IsSingle [] = ⊤
IsSingle (kind ∷ []) = ⊤
IsSingle (kind ∷ other ∷ kinds) = ⊥

or_else-single : (a b : Kinds) → IsSingle a → IsSingle b → IsSingle (or_else a b)
or_else-single [] b first second = second
or_else-single (kind ∷ kinds) b first second = first

choice-single : (b : Bool) (x y : Kinds) → IsSingle x → IsSingle y → IsSingle (if b then x else y)
choice-single true x y first second = first
choice-single false x y first second = second

-- ---- one use of an option

value_kinds-single : (ignore_case : Bool) (parser : ValueParser) (text : Text)
    → IsSingle (value_kinds ignore_case parser text)
value_kinds-single ignore_case parser text = choice-single (accepts ignore_case parser text) _ _ tt tt

values_kinds-single : (ignore_case : Bool) (parser : ValueParser) (vs : List Text)
    → IsSingle (values_kinds ignore_case parser vs)
values_kinds-single ignore_case parser [] = tt
values_kinds-single ignore_case parser (v ∷ vs) =
    or_else-single _ _ (value_kinds-single ignore_case parser v) (values_kinds-single ignore_case parser vs)

values_fault-single : (a : Rule) (vs : List Text) → IsSingle (values_fault a vs)
values_fault-single a vs = values_kinds-single a.ignore_case (parser_of_value a.parser) vs

count_fault-single : (a : Rule) (vs : List Text) (rows : List Row) → IsSingle (count_fault a vs rows)
count_fault-single a [] rows =
    value_kinds-single a.ignore_case (parser_of_value a.parser) (count_text (min (count_of a.id rows + 1) 255))
count_fault-single a (v ∷ vs) rows = values_fault-single a (v ∷ vs)

set_fault-single : (again : Bool) (a : Rule) (vs : List Text) (rows : List Row) → IsSingle (set_fault again a vs rows)
set_fault-single again a vs rows =
    or_else-single _ _ (choice-single (has_row a.id rows && not again) _ _ tt tt) (values_fault-single a vs)

request_kinds-single : (action : ArgAction) → IsSingle (request_kinds action)
request_kinds-single Set = tt
request_kinds-single SetTrue = tt
request_kinds-single SetFalse = tt
request_kinds-single Append = tt
request_kinds-single Count = tt
request_kinds-single Help = tt
request_kinds-single HelpShort = tt
request_kinds-single HelpLong = tt
request_kinds-single Version = tt

action_fault-single : (action : ArgAction) (again : Bool) (a : Rule) (vs : List Text) (rows : List Row)
    → IsSingle (action_fault action again a vs rows)
action_fault-single Set again a vs rows = set_fault-single again a vs rows
action_fault-single SetTrue again a vs rows = set_fault-single again a vs rows
action_fault-single SetFalse again a vs rows = set_fault-single again a vs rows
action_fault-single Append again a vs rows = values_fault-single a vs
action_fault-single Count again a vs rows = count_fault-single a vs rows
action_fault-single Help again a vs rows = tt
action_fault-single HelpShort again a vs rows = tt
action_fault-single HelpLong again a vs rows = tt
action_fault-single Version again a vs rows = tt

range_kinds-single : (least most n : ℕ) → IsSingle (range_kinds least most n)
range_kinds-single least most n = choice-single (nat_lt 0 least && n == 0) _ _ tt
    (choice-single (least == most) _ _ (choice-single (least == n) _ _ tt tt)
    (choice-single (nat_lt n least) _ _ tt (choice-single (nat_lt most n) _ _ tt tt)))

use_fault-single : (again : Bool) (a : Rule) (vs : List Text) (rows : List Row) → IsSingle (use_fault again a vs rows)
use_fault-single again a vs rows = or_else-single _ _
    (range_kinds-single (unwrap_or_range a.range).start_inclusive (most_values a) (length vs))
    (action_fault-single (action_of a) again a (values_or_missing a vs) rows)

-- ---- the walk

module _ (c : List Rule) (again : Bool) where
  used_fault-single : (o : Option Rule) (vs : List Text) (rows : List Row)
      → IsSingle (option_map_or (λ a. use_fault again a vs rows) o [])
  used_fault-single None vs rows = tt
  used_fault-single (Some a) vs rows = use_fault-single again a vs rows

  pending_fault-single : (pending : Option (Text × List Text)) (rows : List Row)
      → IsSingle (option_map_or (λ p. option_map_or (λ a. use_fault again a p.1 rows) (arg_by_id c p.0) []) pending [])
  pending_fault-single None rows = tt
  pending_fault-single (Some held) rows = used_fault-single (arg_by_id c held.0) held.1 rows

  settle_fault-single : (h : Held) → IsSingle (settle_fault c again h)
  settle_fault-single h = pending_fault-single h.pending h.rows

  react_fault-single : (a : Rule) (vs : List Text) (h : Held) → IsSingle (react_fault c again a vs h)
  react_fault-single a vs h =
      or_else-single _ _ (settle_fault-single h) (use_fault-single again a vs (settled c h).rows)

  option_fault-single : (a : Rule) (v : Option Text) (h : Held) → IsSingle (option_fault c again a v h)
  option_fault-single a (Some v) h = react_fault-single a (v ∷ []) h
  option_fault-single a None h = settle_fault-single h

  long_fault-single : (o : Option Rule) (v : Option Text) (h : Held) → IsSingle (long_fault c again o v h)
  long_fault-single None v h = tt
  long_fault-single (Some a) v h = choice-single (takes_values a) _ _ (option_fault-single a v h)
      (choice-single (is_some v) _ _ tt (react_fault-single a [] h))

  short_fault-single : (o : Option Rule) (text : Text) (h : Held) (f : Held → Kinds) → ((x : Held) → IsSingle (f x))
      → IsSingle (short_fault c again o text h f)
  short_fault-single None text h f all = tt
  short_fault-single (Some a) text h f all =
      choice-single (takes_values a) _ _ (option_fault-single a (attached_value text) h)
      (or_else-single _ _ (react_fault-single a [] h) (all (reacted c a [] h)))

  bundle_step_fault-single : (o : Option ℕ) (flags : Text) (skip : ℕ) (h : Held) (f : Text → ℕ → Held → Kinds)
      → ((t : Text) (n : ℕ) (x : Held) → IsSingle (f t n x)) → IsSingle (bundle_step_fault c again o flags skip h f)
  bundle_step_fault-single None flags skip h f all = tt
  bundle_step_fault-single (Some x) flags zero h f all =
      let left_over : Text = drop (length (encode_utf8 x)) flags in
      short_fault-single (arg_by_short c x) left_over h (f left_over 0) (all left_over 0)
  bundle_step_fault-single (Some x) flags (suc skip) h f all = all (drop (length (encode_utf8 x)) flags) skip h

  flags_fault-single : (k : ℕ) (flags : Text) (skip : ℕ) (h : Held) → IsSingle (flags_fault c again k flags skip h)
  unfolding flags_fault
  flags_fault-single zero flags skip h = tt
  flags_fault-single (suc k) flags skip h = bundle_step_fault-single (slice_get (chars flags) 0) flags skip h
      (flags_fault c again k) (flags_fault-single k)

  bundle_fault-single : (o : Option Text) (h : Held)
      → IsSingle (option_map_or (λ flags. bundle_fault c again flags h) o [])
  bundle_fault-single None h = tt
  bundle_fault-single (Some flags) h = flags_fault-single (length flags) flags h.skip (record h { skip = 0 })

  flag_word_fault-single : (o : Option (Text × Option Text)) (word : Text) (h : Held)
      → IsSingle (flag_word_fault c again o word h)
  flag_word_fault-single (Some named) word h = long_fault-single (arg_by_long c named.0) named.1 h
  flag_word_fault-single None word h = bundle_fault-single (short_of word) h

  positional_fault-single : (o : Option Rule) (h : Held) (stray : Kinds) → IsSingle stray
      → IsSingle (option_map_or (λ a. positional_fault c again a h) o stray)
  positional_fault-single None h stray single = single
  positional_fault-single (Some a) h stray single =
      choice-single (is_pending a h.pending && takes_several a) _ _ tt (settle_fault-single h)

-- ---- a command without subcommands

module _ (s : Shape) (leaf : s.is_leaf ≡ true) where
  unnamed_fault-single : (word : Text) (h : Held) → IsSingle (other_fault s None word h)
  unnamed_fault-single word h = choice-single (bytes_eq word (45 ∷ 45 ∷ [])) _ _ tt
      (flag_word_fault-single s.rules s.args_override_self (long_of word) word h)

  word_fault-single : (is_trailing : Bool) (waiting : Waiting) (word : Text) (h : Held)
      → IsSingle (word_fault s [] is_trailing waiting word h)
  word_fault-single true waiting word h = tt
  word_fault-single false idle word h = unnamed_fault-single word h
  word_fault-single false (option id) word h = unnamed_fault-single word h
  word_fault-single false positional word h = unnamed_fault-single word h

  stray_fault-single : IsSingle (stray_fault s)
  stray_fault-single = rw leaf tt

  step_fault-single : (position : ℕ) (h : Held) (step : Step) → IsSingle (step_fault s position h step)
  step_fault-single position h (next waiting) = tt
  step_fault-single position h (trailing place) = tt
  step_fault-single position h (subcommand name) = tt
  step_fault-single position h value =
      positional_fault-single s.rules s.args_override_self (arg_by_index s.rules position) h
      (stray_fault s) stray_fault-single

  turn_fault-single : (w : Walk) (word : Text) → IsSingle (turn_fault s [] w word)
  turn_fault-single w word =
      let met = word_met s.rules [] w.is_trailing w.waiting w.position word w.held in
      choice-single (is_some w.stopped) _ _ tt
      (or_else-single _ _ (word_fault-single w.is_trailing w.waiting word w.held)
      (step_fault-single w.position met.0 met.1))

  walk_fault-single : (words : List Text) (w : Walk) → IsSingle (walk_fault s [] w words)
  unfolding walk_fault
  walk_fault-single [] w = tt
  walk_fault-single (word ∷ words) w =
      or_else-single _ _ (turn_fault-single w word) (walk_fault-single words (walked s.rules [] w word))

  default_fault-single : (rows : List Row) (a : Rule) → IsSingle (default_fault rows a)
  default_fault-single rows a = choice-single (has_row a.id rows || is_empty a.defaults) _ _ tt
      (or_else-single _ _ (request_kinds-single (action_of a)) (values_fault-single a a.defaults))

  defaults_fault-single : (rules : List Rule) (rows : List Row) → IsSingle (defaults_fault rows rules)
  unfolding defaults_fault
  defaults_fault-single [] rows = tt
  defaults_fault-single (a ∷ rules) rows =
      or_else-single _ _ (default_fault-single rows a) (defaults_fault-single rules (with_default rows a))

  check_kinds-single : (help subcommand_wanted argument_wanted : Bool)
      → IsSingle (check_kinds help subcommand_wanted argument_wanted)
  check_kinds-single help subcommand_wanted argument_wanted =
      choice-single help _ _ tt (choice-single subcommand_wanted _ _ tt (choice-single argument_wanted _ _ tt tt))

  level_fault-single : (h : Held) (words : List Text) (has_subcommand : Bool) (below : Kinds) → IsSingle below
      → IsSingle (level_fault s [] h words has_subcommand below)
  level_fault-single h words has_subcommand below single =
      let end = (walk s.rules [] h words).held in
      or_else-single _ _ (walk_fault-single words (walk_from h))
      (or_else-single _ _ single (or_else-single _ _ (settle_fault-single s.rules s.args_override_self end)
      (or_else-single _ _ (defaults_fault-single s.rules (settled s.rules end).rows) (check_kinds-single _ _ _))))

  entered_fault-single : (stop : Option (Text × List Text))
      → IsSingle (entered_fault (record { top = s; subs = [] }) stop)
  entered_fault-single None = tt
  entered_fault-single (Some named) = tt

  pub built_fault-single : (words : List Text)
      → IsSingle (built_fault (record { top = s; subs = [] }) nothing_held words)
  built_fault-single words =
      let stop = (walk s.rules [] nothing_held words).stopped in
      level_fault-single nothing_held words (is_some (entered (record { top = s; subs = [] }) stop)) _
      (entered_fault-single stop)
