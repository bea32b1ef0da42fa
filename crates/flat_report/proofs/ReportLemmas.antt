-- A report is what was printed.
use Rattle.std.proofs.Common.{◌≡◌, ℕ, List, Ok, ap, subst}
use Rattle.host_port.specs.Outside.{Outside}
use Rattle.host_port.specs.Host.{Puts}
use Rattle.host_port.specs.declared.side.Side.TheVariants.{Output}
use Rattle.host_port.specs.declared.host.Failed.{Failed}
use Rattle.flat_report.specs.Sources.{Sources}
use Rattle.flat_report.specs.Entries.{FlatEntry, flat_entries}
use Rattle.flat_report.specs.FlatText.{flat_text, text_of}
use Rattle.flat_report.specs.Reports.{Reports}

-- what was printed whole is the report
pub report_whole : (text whole : List ℕ) (x y : Outside) (u v : Unit {0}) → text ≡ whole → Puts {T = Unit {0}} {E = Failed} Output text x y (Ok u) → Reports whole x y (Ok v)
report_whole text whole x y u v same puts = subst (λ (t : List ℕ). Reports t x y (Ok v)) same (record { takes = record { done = puts.takes.done; part = tt; input = puts.takes.input }; counts = record { own = puts.counts.own; last = tt; read = puts.counts.read; err = puts.counts.err }; last = puts.last })

-- the text of the entries is the flat profile
pub text_of_entries : (s : Sources) (hidden : List (List ℕ)) (entries : List FlatEntry) → entries ≡ flat_entries s → text_of s hidden entries ≡ flat_text s hidden
unfolding flat_text
text_of_entries s hidden entries same = ap (text_of s hidden) same
