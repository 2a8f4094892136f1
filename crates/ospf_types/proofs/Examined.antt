-- The areas whose summaries are examined have one Area ID.
use Rattle.std.proofs.Common.{◌≡◌, sym, ◌∙◌, inl, inr}
use Rattle.std.proofs.lemmas.Bool.{cases_eq}
use Rattle.ospf_types.specs.Inputs.{Inputs, Area}
use Rattle.ospf_types.specs.Ranges.{IsExamined}

pub examined_once : (s : Inputs) (a b : Area) → IsExamined s a → IsExamined s b → a.id ≡ b.id
examined_once s a b one other = elim one.which [
  | inl border ↦ elim other.which [ inl too ↦ border.1 ∙ sym too.1 | inr alone ↦ absurd (alone.1 border.0) ]
  | inr alone ↦ elim other.which [
    | inl border ↦ absurd (alone.1 border.0)
    | inr too ↦ elim (cases_eq a.id b.id) [ inl same ↦ same | inr apart ↦ absurd (alone.1 (a, b, alone.0, too.0, apart)) ]
  ]
]
