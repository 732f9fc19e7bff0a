-- The keys of a query, and the texts that its pairs give them.
use Rattle.std.proofs.Common.{◌≡◌, ℕ, cond, Bool, true, false, List, [], ◌∷◌, ◌++◌, Option, None, Some, refl, ap, sym, ◌∙◌}
use Rattle.std.specs.Cmp.Lexicographic.{bytes_decides}
use Rattle.std.specs.Option.{option_or}
use Rattle.sm_base.specs.Texts.{same_text}
use Rattle.sm_agent.specs.declared.key.Key.{Key}
use Rattle.sm_agent.specs.declared.key.Key.TheVariants.{SecretId, VersionId, VersionStage, RefreshNow}
use Rattle.sm_agent.specs.Queries.{Pair, key_text, key_of, text_for, text_under}

same_is : (one other : List ℕ) → same_text one other ≡ true → one ≡ other
unfolding same_text
same_is one other h = (bytes_decides one other).0 h

same_as_itself : (text : List ℕ) → same_text text text ≡ true
unfolding same_text
same_as_itself text = (bytes_decides text text).1 refl

-- a text that is a key is spelled as that key
pub key_is : (text : List ℕ) (key : Key) → key_of text ≡ Some key → text ≡ key_text key
key_is text key = by (same_text text (key_text SecretId)) (same_text text (key_text VersionId))
    (same_text text (key_text VersionStage)) (same_text text (key_text RefreshNow)) refl refl refl refl
  where
    by : (a b c d : Bool) → a ≡ same_text text (key_text SecretId) → b ≡ same_text text (key_text VersionId)
        → c ≡ same_text text (key_text VersionStage) → d ≡ same_text text (key_text RefreshNow)
        → cond a (Some SecretId) (cond b (Some VersionId) (cond c (Some VersionStage)
        (cond d (Some RefreshNow) None))) ≡ Some key → text ≡ key_text key
    by true b c d p q r s h =
        let is : SecretId ≡ key = cc in same_is text (key_text SecretId) (sym p) ∙ ap key_text is
    by false true c d p q r s h =
        let is : VersionId ≡ key = cc in same_is text (key_text VersionId) (sym q) ∙ ap key_text is
    by false false true d p q r s h =
        let is : VersionStage ≡ key = cc in same_is text (key_text VersionStage) (sym r) ∙ ap key_text is
    by false false false true p q r s h =
        let is : RefreshNow ≡ key = cc in same_is text (key_text RefreshNow) (sym s) ∙ ap key_text is
    by false false false false p q r s h = cc

-- keys that are spelled alike are one
abbrev pub is_same : Key → Key → Bool
is_same SecretId SecretId = true
is_same SecretId VersionId = false
is_same SecretId VersionStage = false
is_same SecretId RefreshNow = false
is_same VersionId SecretId = false
is_same VersionId VersionId = true
is_same VersionId VersionStage = false
is_same VersionId RefreshNow = false
is_same VersionStage SecretId = false
is_same VersionStage VersionId = false
is_same VersionStage VersionStage = true
is_same VersionStage RefreshNow = false
is_same RefreshNow SecretId = false
is_same RefreshNow VersionId = false
is_same RefreshNow VersionStage = false
is_same RefreshNow RefreshNow = true

apart : (key other : Key) → same_text (key_text key) (key_text other) ≡ is_same key other
unfolding key_text same_text
apart SecretId SecretId = refl
apart SecretId VersionId = refl
apart SecretId VersionStage = refl
apart SecretId RefreshNow = refl
apart VersionId SecretId = refl
apart VersionId VersionId = refl
apart VersionId VersionStage = refl
apart VersionId RefreshNow = refl
apart VersionStage SecretId = refl
apart VersionStage VersionId = refl
apart VersionStage VersionStage = refl
apart VersionStage RefreshNow = refl
apart RefreshNow SecretId = refl
apart RefreshNow VersionId = refl
apart RefreshNow VersionStage = refl
apart RefreshNow RefreshNow = refl

or_none : (text : Option (List ℕ)) → option_or text None ≡ text
or_none None = refl
or_none (Some t) = refl

or_assoc : (a b c : Option (List ℕ)) → option_or a (option_or b c) ≡ option_or (option_or a b) c
or_assoc None b c = refl
or_assoc (Some t) b c = refl

-- the text of a key with a pair more
under_more : (key : List ℕ) (before : List Pair) (pair : Pair)
    → text_under key (before ++ pair ∷ []) ≡ option_or (text_under key before) (text_for key pair)
under_more key [] pair = or_none (text_for key pair)
under_more key (first ∷ before) pair =
    ap (option_or (text_for key first)) (under_more key before pair)
    ∙ or_assoc (text_for key first) (text_under key before) (text_for key pair)

module _ (before : List Pair) (pair : Pair) (key : Key) (spelled : pair.key ≡ key_text key) where
  for_by : (other : Key) (t : Bool) → is_same key other ≡ t
      → text_for (key_text other) pair ≡ cond t pair.text None
  for_by other t same =
      ap (λ (k : List ℕ). cond (same_text k (key_text other)) pair.text None) spelled
      ∙ ap (λ b. cond b pair.text None) (apart key other ∙ same)

  itself : (k : Key) → is_same k k ≡ true
  itself SecretId = refl
  itself VersionId = refl
  itself VersionStage = refl
  itself RefreshNow = refl

  -- the key of the pair, where it had none
  pub own_text : (text : List ℕ) → pair.text ≡ Some text → text_under (key_text key) before ≡ None
      → Some text ≡ text_under (key_text key) (before ++ pair ∷ [])
  own_text text is free =
      sym (under_more (key_text key) before pair
      ∙ ap (λ (t : Option (List ℕ)). option_or t (text_for (key_text key) pair)) free
      ∙ for_by key true (itself key) ∙ is)

  -- and each other key
  pub other_text : (other : Key) (text : Option (List ℕ)) → is_same key other ≡ false
      → text ≡ text_under (key_text other) before → text ≡ text_under (key_text other) (before ++ pair ∷ [])
  other_text other text differs was =
      was ∙ sym (under_more (key_text other) before pair
      ∙ ap (option_or (text_under (key_text other) before)) (for_by other false differs)
      ∙ or_none (text_under (key_text other) before))
