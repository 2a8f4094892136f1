-- The numbers of the types of external paths and of the classes of paths (RFC 2328, 16.4 and 16.4.1): the lesser number is preferred.
use Rattle.std.specs.Prelude.{ℕ, ◌≡◌, ◌==◌, refl, if◌then◌else◌}
use Rattle.external.specs.declared.class.ExternalType.{ExternalType}
use Rattle.external.specs.declared.class.ExternalType.TheVariants.{Type1, Type2}
use Rattle.external.specs.declared.class.PathClass.{PathClass}
use Rattle.external.specs.declared.class.PathClass.TheVariants.{MostPreferred, Other}

abbrev pub kind_number : ExternalType → ℕ
kind_number Type1 = 1
kind_number Type2 = 2

abbrev pub class_number : PathClass → ℕ
class_number MostPreferred = 0
class_number Other = 1

-- the type with this number
abbrev pub numbered_kind : ℕ → ExternalType
numbered_kind n = if n == 1 then Type1 else Type2

-- the class with this number
abbrev pub numbered_class : ℕ → PathClass
numbered_class n = if n == 0 then MostPreferred else Other

pub same_kind : (t : ExternalType) → numbered_kind (kind_number t) ≡ t
same_kind Type1 = refl
same_kind Type2 = refl

pub same_class : (c : PathClass) → numbered_class (class_number c) ≡ c
same_class MostPreferred = refl
same_class Other = refl
