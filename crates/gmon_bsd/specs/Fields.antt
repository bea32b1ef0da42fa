-- What a 4.4BSD gmon.out file has of its own among its fields, as `gmon.h` has them on a machine of 32 bits.
use Rattle.std.specs.Prelude.{ℕ}

-- GMONVERSION of gmon.h
abbrev pub bsd_version : ℕ
bsd_version = 0x00051879
