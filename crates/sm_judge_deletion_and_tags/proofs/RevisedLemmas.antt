-- A secret with another deletion date or other tags: what has to hold of them so that it stays sound.
use Rattle.std.proofs.Common.{◌≤◌, List, length, Option, IsTrue}
use Rattle.std.proofs.lemmas.Option.{IfSome_then}
use Rattle.sm_base.specs.declared.moment.Moment.{Moment}
use Rattle.sm_base.specs.declared.limits.TheConstants.{TAGS_LIMIT}
use Rattle.sm_model.specs.declared.rows.SecretRow.{SecretRow}
use Rattle.sm_model.specs.declared.value.Tag.{Tag}
use Rattle.sm_model.specs.Bounds.{fits, is_date}
use Rattle.sm_versions.specs.Texts.{once}
use Rattle.sm_versions.specs.Sound.{tag_keys, each_tag, UnsettledSound}

-- what is asked of the tags of a secret
pub record AreTags (tags : List Tag) : Type 0 where
  pub count : length tags ≤ TAGS_LIMIT
  pub each : IsTrue (each_tag tags)
  pub once : IsTrue (once (tag_keys tags))

-- the tags of a sound secret are as they have to be
pub tags_of : (row : SecretRow) → UnsettledSound row → AreTags row.tags
tags_of row sound = record {
  count = sound.fits.tag_count;
  each = sound.fits.tags;
  once = sound.fits.tag_once;
}

-- the row with this deletion date and these tags
abbrev pub revised : Option Moment → List Tag → SecretRow → SecretRow
revised deletion tags row = record row { deletion = deletion; tags = tags }

pub revised_sound : (deletion : Option Moment) (tags : List Tag) (row : SecretRow) → IsTrue (fits is_date deletion)
    → AreTags tags → UnsettledSound row → UnsettledSound (revised deletion tags row)
revised_sound deletion tags row date are sound = record {
  kept = record {
    versions = assumption sound.kept.versions;
    job = IfSome_then row.job sound.kept.job (λ job fits. assumption fits);
  };
  fits = assumption (date, are.count, are.each, are.once, sound.fits);
}
