-- A profile file of each form written out in full, words of each command, and what is read of them.
use Rattle.std.specs.Prelude.{◌≡◌, ℕ, true, false, List, [], ◌∷◌, ◌++◌, codes, None, Some}
use Rattle.gp_base.specs.declared.records.Form.TheVariants.{Bsd, Gnu}
use Rattle.gp_base.specs.declared.records.Rec.TheVariants as recs
use Rattle.settings.specs.declared.setup.Plan.TheVariants.{RoundRobin, Seeded}
use Rattle.settings.specs.declared.setup.Setup.{Setup}
use Rattle.gmon_files.specs.Forms.{file_records, file_refusal}
use Rattle.command_words.specs.declared.words.Command.TheVariants.{Show, Syms, Run, Sum, Report, Profile, Demo, Annotate, Folded, Help, Version}
use Rattle.command_words.specs.declared.words.Shown.TheVariants.{Flat, Both}
use Rattle.command_words.specs.Words.{command_of}

-- ---- files

-- the header of a file of 4.4BSD: the addresses from 0x10000 to below 0x10008, 36 bytes up to the arcs, the version, 100
-- samples a second, and three spare words
abbrev pub bsd_header : List ℕ
bsd_header =
    0x00 ∷ 0x00 ∷ 0x01 ∷ 0x00 ∷ 0x08 ∷ 0x00 ∷ 0x01 ∷ 0x00 ∷ 0x24 ∷ 0x00 ∷ 0x00 ∷ 0x00 ∷ 0x79 ∷ 0x18 ∷ 0x05 ∷ 0x00 ∷
    0x64 ∷ 0x00 ∷ 0x00 ∷ 0x00 ∷ 0x00 ∷ 0x00 ∷ 0x00 ∷ 0x00 ∷ 0x00 ∷ 0x00 ∷ 0x00 ∷ 0x00 ∷ 0x00 ∷ 0x00 ∷ 0x00 ∷ 0x00 ∷ []

-- two counters, 3 and 65,535, and an arc from 0x10004 to 0x10000 with 7 calls
abbrev pub bsd_body : List ℕ
bsd_body =
    0x03 ∷ 0x00 ∷ 0xff ∷ 0xff ∷
    0x04 ∷ 0x00 ∷ 0x01 ∷ 0x00 ∷ 0x00 ∷ 0x00 ∷ 0x01 ∷ 0x00 ∷ 0x07 ∷ 0x00 ∷ 0x00 ∷ 0x00 ∷ []

-- 48 bytes
unfoldable pub bsd_example : List ℕ
bsd_example = bsd_header ++ bsd_body

-- the header of a file of GNU: `gmon`, version 1, and three spare words
abbrev pub gnu_header : List ℕ
gnu_header =
    0x67 ∷ 0x6d ∷ 0x6f ∷ 0x6e ∷ 0x01 ∷ 0x00 ∷ 0x00 ∷ 0x00 ∷
    0x00 ∷ 0x00 ∷ 0x00 ∷ 0x00 ∷ 0x00 ∷ 0x00 ∷ 0x00 ∷ 0x00 ∷ 0x00 ∷ 0x00 ∷ 0x00 ∷ 0x00 ∷ []

-- the same histogram, whose dimension is seconds
abbrev pub gnu_histogram : List ℕ
gnu_histogram =
    0x00 ∷ 0x00 ∷ 0x00 ∷ 0x01 ∷ 0x00 ∷ 0x08 ∷ 0x00 ∷ 0x01 ∷ 0x00 ∷ 0x02 ∷ 0x00 ∷ 0x00 ∷ 0x00 ∷ 0x64 ∷ 0x00 ∷ 0x00 ∷ 0x00 ∷
    0x73 ∷ 0x65 ∷ 0x63 ∷ 0x6f ∷ 0x6e ∷ 0x64 ∷ 0x73 ∷ 0x00 ∷ 0x00 ∷ 0x00 ∷ 0x00 ∷ 0x00 ∷ 0x00 ∷ 0x00 ∷ 0x00 ∷ 0x73 ∷
    0x03 ∷ 0x00 ∷ 0xff ∷ 0xff ∷ []

-- the same arc
abbrev pub gnu_arc : List ℕ
gnu_arc = 0x01 ∷ 0x04 ∷ 0x00 ∷ 0x01 ∷ 0x00 ∷ 0x00 ∷ 0x00 ∷ 0x01 ∷ 0x00 ∷ 0x07 ∷ 0x00 ∷ 0x00 ∷ 0x00 ∷ []

-- and two counts of basic blocks: 5 at 0x10000, and 1 at 0x10004
abbrev pub gnu_blocks : List ℕ
gnu_blocks =
    0x02 ∷ 0x02 ∷ 0x00 ∷ 0x00 ∷ 0x00 ∷ 0x00 ∷ 0x00 ∷ 0x01 ∷ 0x00 ∷ 0x05 ∷ 0x00 ∷ 0x00 ∷ 0x00 ∷
    0x04 ∷ 0x00 ∷ 0x01 ∷ 0x00 ∷ 0x01 ∷ 0x00 ∷ 0x00 ∷ 0x00 ∷ []

-- 91 bytes
unfoldable pub gnu_example : List ℕ
gnu_example = gnu_header ++ (gnu_histogram ++ (gnu_arc ++ gnu_blocks))

-- Both are accepted, and read as what stands beside their bytes.
pub record FileExamples : Type 0 where
  pub bsd_accepted : file_refusal bsd_example ≡ None
  pub bsd : file_records bsd_example ≡ record {
    form = Bsd;
    recs = recs.Hist (record {
      low = 0x10000;
      high = 0x10008;
      unit = record { rate = 100; dim = codes "seconds" ++ (0 ∷ 0 ∷ 0 ∷ 0 ∷ 0 ∷ 0 ∷ 0 ∷ 0 ∷ []); «abbrev» = 0x73 };
      counters = 3 ∷ 65535 ∷ [];
    }) ∷ recs.Arc (record { from = 0x10004; to = 0x10000; count = 7 }) ∷ [];
  }
  pub gnu_accepted : file_refusal gnu_example ≡ None
  pub gnu : file_records gnu_example ≡ record {
    form = Gnu;
    recs = recs.Hist (record {
      low = 0x10000;
      high = 0x10008;
      unit = record { rate = 100; dim = codes "seconds" ++ (0 ∷ 0 ∷ 0 ∷ 0 ∷ 0 ∷ 0 ∷ 0 ∷ 0 ∷ []); «abbrev» = 0x73 };
      counters = 3 ∷ 65535 ∷ [];
    }) ∷ recs.Arc (record { from = 0x10004; to = 0x10000; count = 7 })
        ∷ recs.Blocks (record { addr = 0x10000; count = 5 } ∷ record { addr = 0x10004; count = 1 } ∷ []) ∷ [];
  }

-- ---- words

-- a run of which nothing is asked
abbrev pub usual_setup : Setup
usual_setup = record { every = 1000; budget = 100000000; rate = 100; ram_mib = 64; harts = 1; plan = RoundRobin 1; hist = 2; hash = 2; blocks = false }

-- Words of each command say it, with their operands and the values of their options by position, of which the command's own
-- word has 0; and some say none.
pub record WordExamples : Type 0 where
  pub show : command_of (codes "show" ∷ codes "g" ∷ []) ≡ Some (Show 1)
  pub syms : command_of (codes "syms" ∷ codes "e" ∷ []) ≡ Some (Syms 1)
  pub run : command_of (codes "run" ∷ codes "e" ∷ codes "--gnu" ∷ codes "g" ∷ codes "--every" ∷ codes "50" ∷ codes "--blocks" ∷ codes "--image" ∷ codes "m" ∷ [])
      ≡ Some (Run 1 3 Gnu (Some 8) (record usual_setup { every = 50; blocks = true }))
  pub sum : command_of (codes "sum" ∷ codes "o" ∷ codes "a" ∷ codes "b" ∷ []) ≡ Some (Sum 1 (2 ∷ 3 ∷ []))
  pub report : command_of (codes "report" ∷ codes "e" ∷ codes "g" ∷ codes "--flat" ∷ codes "-k" ∷ codes "a/b" ∷ codes "--hide" ∷ codes "c" ∷ [])
      ≡ Some (Report 1 (2 ∷ []) (record { shown = Flat; exact = false; cuts = 5 ∷ []; hidden = 7 ∷ [] }))
  pub profile : command_of (codes "profile" ∷ codes "e" ∷ codes "g" ∷ codes "--harts" ∷ codes "2" ∷ codes "--seed" ∷ codes "7" ∷ codes "--exact" ∷ [])
      ≡ Some (Profile 1 2 Bsd None (record usual_setup { harts = 2; plan = Seeded 7 }) (record { shown = Both; exact = true; cuts = []; hidden = [] }))
  pub demo : command_of (codes "demo" ∷ codes "3" ∷ codes "--elf" ∷ codes "p" ∷ codes "--ram" ∷ codes "8" ∷ [])
      ≡ Some (Demo 3 (Some 3) (record usual_setup { ram_mib = 8 }))
  pub annotate : command_of (codes "annotate" ∷ codes "e" ∷ codes "a" ∷ codes "b" ∷ []) ≡ Some (Annotate 1 (2 ∷ 3 ∷ []))
  pub folded : command_of (codes "folded" ∷ codes "e" ∷ codes "--inclusive" ∷ []) ≡ Some (Folded 1 true usual_setup)
  pub help : command_of (codes "--help" ∷ []) ≡ Some Help
  pub version : command_of (codes "--version" ∷ []) ≡ Some Version
  -- none at all, a word that is no command, a file that is missing, one too many, and a number that is too large
  pub no_word : command_of [] ≡ None
  pub no_command : command_of (codes "shows" ∷ codes "g" ∷ []) ≡ None
  pub no_file : command_of (codes "run" ∷ codes "e" ∷ []) ≡ None
  pub two_files : command_of (codes "show" ∷ codes "g" ∷ codes "h" ∷ []) ≡ None
  pub nine_harts : command_of (codes "run" ∷ codes "e" ∷ codes "g" ∷ codes "--harts" ∷ codes "9" ∷ []) ≡ None
