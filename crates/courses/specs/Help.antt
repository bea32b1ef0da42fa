-- What `--help` and `--version` print.
use Rattle.std.specs.Prelude.{ℕ, List, codes}

unfoldable pub help_text : List ℕ
help_text = codes "usage: rvgprof COMMAND ..\n\nrun ELF GMON        run a program of RV32IM and write its profile to GMON\nprofile ELF GMON    run it, write its profile, and print reports of it\nreport ELF GMON..   add up 1 to 16 gmon.out files and print reports of their sum\nannotate ELF GMON.. print each instruction with its executions and its time\nfolded ELF          run a program and print its call stacks for flame graphs\nsum OUT GMON..      add up 1 to 16 gmon.out files and write their sum to OUT\nshow GMON           print the records of a gmon.out file\nsyms ELF            print the text, hooks and function symbols of a program\ndemo N              make, run and sum up a program of N functions, 1 to 2000\n--help, --version   print this text, or the version\n\nof run, profile, demo and folded:\n  --every N         instructions from sample to sample (1000)\n  --budget N        instructions in all (100000000)\n  --ram MIB         MiB of memory, 4 to 256 (64)\n  --harts N         harts, 1 to 8 (1)\n  --quantum N       turns of a hart before the next one's (1)\n  --seed N          a seeded schedule instead; not beside --quantum\nof run, profile and demo:\n  --rate N          samples per second, as GMON says (100)\n  --hist N          bytes of text to a byte of counters: 2, 4, 8 or 16 (2)\n  --hash N          bytes of text to a byte of call sites: 2, 4, 8 or 16 (2)\nof run and profile:\n  --gnu             the GNU form of gmon.out instead of that of 4.4BSD\n  --blocks          execution counts too; only beside --gnu\n  --image FILE      write the memory of the profiling runtime to FILE\nof report and profile:\n  --flat, --graph   the flat profile or the call graph alone (both)\n  --exact           then the times with nothing rounded\n  -k FROM/TO        leave out calls of FROM to TO, up to 16 times\n  --hide NAME       print no line or entry of function NAME, up to 16 times\nof folded:\n  --inclusive       the functions on stacks instead, with their samples\nof demo:\n  --elf FILE        write the program to FILE\nN is 1 to 2147483647 where nothing else is said.\nThe status is 0, or says what went wrong: see the manual page.\n"

unfoldable pub version_text : List ℕ
version_text = codes "rvgprof 1.0\n"
