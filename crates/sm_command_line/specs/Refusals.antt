-- What is said of words that are refused.
use Rattle.std.specs.Prelude.{Bool, true, false, [], ◌∷◌, Option, Some, None}
use Rattle.clap.specs.Words.{Kinds}
use Rattle.clap.specs.declared.error.kind.ErrorKind.{ErrorKind}
use Rattle.clap.specs.declared.error.kind.ErrorKind.TheVariants.{DisplayHelp, DisplayVersion}

-- the words ask for help or for the version
abbrev pub is_asked : ErrorKind → Bool
is_asked DisplayHelp = true
is_asked DisplayVersion = true
is_asked kind = false

-- whether what is wrong is that the words ask for help or the version; nothing where nothing is wrong
abbrev pub asked_by : Kinds → Option Bool
asked_by [] = None
asked_by (kind ∷ kinds) = Some (is_asked kind)
