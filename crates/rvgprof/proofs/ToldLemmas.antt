-- What is told of the files was told before.
use Rattle.std.proofs.Common.{◌≡◌, true, List, Option, Some, None, Result, Ok, Err, refl}
use Rattle.std.specs.Prelude.{IfSome, MatchOption, is_some, ⊤, ℕ}
use Rattle.host_port.specs.Act.{Act, Disk, File}
use Rattle.host_port.specs.Outside.{Outside, Becomes, Did}
use Rattle.host_port.specs.Host.{Puts}
use Rattle.host_port.specs.declared.side.Side.TheVariants.{ErrorOutput}
use Rattle.command_words.specs.declared.words.Command.{Command}
use Rattle.command_words.specs.declared.words.Command.TheVariants.{Show, Syms, Run, Sum, Report, Profile, Demo, Annotate, Folded, Help, Version}
use Rattle.gmon_data.specs.Content.{IsProfile}
use Rattle.command_inputs.specs.Totals.{total_of}
use Rattle.courses.specs.Answer.{contents_of}
use Rattle.courses.specs.Contract.{WhereTold}
use Rattle.rvgprof.specs.Fitting.{FileFits}
use Rattle.rvgprof.specs.Fitting.{TellsNoMore}

-- acts tell nothing more
pub acts_tell : (acts : List Act) (old new : Outside) → Did acts old new → TellsNoMore old new
acts_tell acts old new did = by _ old.disk new.disk did.disk
  where
    by : (f : Disk → Disk) (a c : Option Disk) → Becomes f a c → is_some c ≡ true → is_some a ≡ true
    by f a None same some = absurd cc
    by f None (Some z) same some = absurd cc
    by f (Some x) (Some z) same some = refl

-- what was told is told still, or no more
pub later_told : (old mid new : Outside) (P : List File → Type 0) → TellsNoMore mid new → WhereTold old mid P → WhereTold old new P
later_told old mid new P = by old.disk mid.disk new.disk
  where
    by : (a b c : Option Disk) → (is_some c ≡ true → is_some b ≡ true) → MatchOption b ⊤ (λ _. IfSome a (λ d. P d.files)) → MatchOption c ⊤ (λ _. IfSome a (λ d. P d.files))
    by a b None some told = tt
    by a None (Some z) some told = absurd (let none : is_some {T = Disk} None ≡ true = some refl in cc)
    by a (Some y) (Some z) some told = told

-- a text was printed on the error output, or a prefix of it
pub line_tells : {E : Type 0} (text : List ℕ) (old new : Outside) (r : Result (Unit {0}) E) → Puts ErrorOutput text old new r → TellsNoMore old new
line_tells text old new (Ok u) puts = acts_tell _ old new puts.takes.done
line_tells text old new (Err e) puts = acts_tell _ old new puts.takes.part.2

-- what fitted still does
pub fits_still : (words : List (List ℕ)) (old mid new : Outside) (command : Option Command) → TellsNoMore mid new → FileFits words old mid command → FileFits words old new command
fits_still words old mid new (Some (Run elf gmon form memory setup)) tells fits = fits
fits_still words old mid new (Some (Profile elf gmon form memory setup selection)) tells fits = fits
fits_still words old mid new None tells fits = tt
fits_still words old mid new (Some (Show gmon)) tells fits = tt
fits_still words old mid new (Some (Syms elf)) tells fits = tt
fits_still words old mid new (Some (Sum out gmons)) tells fits = later_told old mid new (λ files. IsProfile (total_of (contents_of words files) gmons)) tells fits
fits_still words old mid new (Some (Report elf gmons selection)) tells fits = tt
fits_still words old mid new (Some (Demo functions elf setup)) tells fits = tt
fits_still words old mid new (Some (Annotate elf gmons)) tells fits = tt
fits_still words old mid new (Some (Folded elf inclusive setup)) tells fits = tt
fits_still words old mid new (Some Help) tells fits = tt
fits_still words old mid new (Some Version) tells fits = tt
