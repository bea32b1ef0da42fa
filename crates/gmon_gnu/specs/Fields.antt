-- What a gmon.out file of the GNU profiler, version 1, has of its own among its fields.
use Rattle.std.specs.Prelude.{ℕ, List, [], ◌∷◌, replicate}

-- GMON_VERSION of gmon_out.h
abbrev pub gnu_version : ℕ
gnu_version = 1

-- GMON_MAGIC of gmon_out.h: `gmon`
abbrev pub magic : List ℕ
magic = 103 ∷ 109 ∷ 111 ∷ 110 ∷ []

-- spare bytes of zeros
abbrev pub spare_bytes : List ℕ
spare_bytes = replicate 12 0
