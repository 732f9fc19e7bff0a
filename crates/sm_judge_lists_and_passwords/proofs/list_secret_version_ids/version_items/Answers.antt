use Rattle.std.proofs.Common.{◌≡◌, ◌++◌, ◌∷◌, [], map, drop, length, Some, refl, sym, ap, ◌∙◌, arith}
use Rattle.std.specs.List.{slice_get}
use Rattle.std.proofs.lemmas.Bool.{false≢true}
use Rattle.std.proofs.lemmas.List.{length-map}
use Rattle.sm_judge_lists_and_passwords.specs.Pages.{picked}
use Rattle.sm_judge_lists_and_passwords.specs.ListSecretVersionIds.{version_item, version_serial}
use Rattle.sm_judge_lists_and_passwords.proofs.PickedLemmas.{picked_hit, picked_miss, picked_end, picked_full}
use Rattle.sm_judge_lists_and_passwords.proofs.list_secret_version_ids.version_items.Goals as goal

pub returns-then-len-serials : goal.returns-then-len-serials
returns-then-len-serials c =
    picked_full version_serial (version_item c.args.row.now) c.args.serials.now
    (map (λ version. version.now) c.loop-version.version-iterator.rest.items) 0 c.loop-version.list _ (omega arith)
    c.loop-version.invariant

pub loop-version-preserved-in_ok-push : goal.loop-version-preserved-in_ok-push
loop-version-preserved-in_ok-push c =
    let serials = c.args.serials.now in
    let version = c.in-Some.version.now in
    let left = version ∷ map (λ version. version.now) c.next.new.self.rest.items in
    let list = c.loop-version.list in
    let show = version_item c.args.row.now in
    let same : map show (picked version_serial serials c.args.row.now.versions)
    ≡ list ++ map show (picked version_serial (drop (length list) serials) left) =
    c.loop-version.invariant
    ∙ ap (λ rest. list ++ map show (picked version_serial (drop (length list) serials) (map (λ v. v.now) rest)))
    c.in-Some.ensures.steps.0 in
    let next : slice_get serials (length list) ≡ Some version.serial =
    rw (← c.len-in-loop-version.ensures) (c.is_next.ensures.0 c.if-is_next.true) in
    let more : c.push.new.self ≡ list ++ show version ∷ [] =
    cc (c.in_ok-push.ensures.ok, c.in_ok-version_item.ensures) in
    rw more (picked_hit version_serial show serials left 0 version list _ refl next same)

pub loop-version-preserved : goal.loop-version-preserved
loop-version-preserved c =
    let serials = c.args.serials.now in
    let version = c.in-Some.version.now in
    let left = version ∷ map (λ version. version.now) c.next.new.self.rest.items in
    let list = c.loop-version.list in
    let show = version_item c.args.row.now in
    let same : map show (picked version_serial serials c.args.row.now.versions)
    ≡ list ++ map show (picked version_serial (drop (length list) serials) left) =
    c.loop-version.invariant
    ∙ ap (λ rest. list ++ map show (picked version_serial (drop (length list) serials) (map (λ v. v.now) rest)))
    c.in-Some.ensures.steps.0 in
    let within = c.if-len-serials.false in
    picked_miss version_serial show serials left 0 version list _ refl
    (λ next. absurd (false≢true (sym c.if-is_next.false
    ∙ c.is_next.ensures.1 (rw c.len-in-loop-version.ensures next)))) (omega arith) same

pub returns : goal.returns
returns c =
    let rest = c.loop-version.version-iterator.rest in
    picked_end version_serial (version_item c.args.row.now) c.args.serials.now (map (λ version. version.now) rest.items)
    0 c.loop-version.list _ (omega (
      arith,
      length-map rest.items (λ version. version.now),
      rest.ok.0,
      c.in-None.ensures.steps.0,
    )) c.loop-version.invariant
