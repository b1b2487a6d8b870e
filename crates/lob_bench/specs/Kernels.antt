-- The names of the kernels.
use Rattle.std.specs.Prelude.{ℕ, List, codes}
use Rattle.lob_bench.specs.declared.request.Kernel.{Kernel}
use Rattle.lob_bench.specs.declared.request.Kernel.TheVariants.{Encode, Decode, Print, Used, Member, Refuse}

abbrev pub name_of : Kernel → List ℕ
name_of Encode = codes "encode"
name_of Decode = codes "decode"
name_of Print = codes "print"
name_of Used = codes "used"
name_of Member = codes "member"
name_of Refuse = codes "refuse"
