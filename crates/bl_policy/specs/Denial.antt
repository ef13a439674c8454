use Rattle.std.specs.Prelude.{ℕ, List, codes}
use Rattle.bl_policy.specs.declared.denial.Clause.{Clause}
use Rattle.bl_policy.specs.declared.denial.Clause.TheVariants.{Absent, Simple, Star, Discretionary, Carry, Admin, Trusted, Greatest, Present}

-- the word of a clause in a reply
abbrev pub word_of : Clause → List ℕ
word_of Absent = codes "absent"
word_of Simple = codes "simple"
word_of Star = codes "star"
word_of Discretionary = codes "discretionary"
word_of Carry = codes "carry"
word_of Admin = codes "admin"
word_of Trusted = codes "trusted"
word_of Greatest = codes "greatest"
word_of Present = codes "present"
