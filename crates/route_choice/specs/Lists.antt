-- The elements that a list gains.
use Rattle.std.specs.Prelude.{◌⊎◌, ◌↔◌, List, Contains}

-- the list has just these
abbrev pub ListsExactly : {A : Type 0} → (A → Type 0) → List A → Type 0
ListsExactly {A} these list = (x : A) → Contains list x ↔ these x

-- the list has what it had and, next to it, just these
abbrev pub HasMore : {A : Type 0} → (A → Type 0) → List A → List A → Type 0
HasMore {A} more before after = (x : A) → Contains after x ↔ (Contains before x ⊎ more x)

-- it has all of these
abbrev pub HasAll : {A : Type 0} → (A → Type 0) → List A → Type 0
HasAll {A} these list = (x : A) → these x → Contains list x

-- it has what it had, and these
abbrev pub GainsAll : {A : Type 0} → (A → Type 0) → List A → List A → Type 0
GainsAll {A} these before after = (x : A) → Contains before x ⊎ these x → Contains after x

-- what some element of the list gives
abbrev pub IsOfSome : {A B : Type 0} → List A → (A → B → Type 0) → B → Type 0
IsOfSome {A} xs P y = (x : A) × Contains xs x × P x y
