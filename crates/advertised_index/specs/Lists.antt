-- The elements that a list gains.
use Rattle.std.specs.Prelude.{ℕ, ◌≡◌, ◌≢◌, ◌⊎◌, ◌↔◌, ◌≤◌, ◌++◌, List, Contains}
use Rattle.std.specs.List.{AllPairs}

-- the list has what it had and, next to it, just these
abbrev pub HasMore : {A : Type 0} → (A → Type 0) → List A → List A → Type 0
HasMore {A} more before after = (x : A) → Contains after x ↔ (Contains before x ⊎ more x)

-- after what it had, it has a list in which nothing occurs twice
abbrev pub HasMoreOnce : {A : Type 0} → List A → List A → Type 0
HasMoreOnce {A} before after = (added : List A) × (after ≡ before ++ added) × AllPairs (λ j k. j ≢ k) added

-- it has what it had
abbrev pub KeepsAll : {A : Type 0} → List A → List A → Type 0
KeepsAll {A} before after = (x : A) → Contains before x → Contains after x

-- it has all of these
abbrev pub HasAll : {A : Type 0} → (A → Type 0) → List A → Type 0
HasAll {A} these list = (x : A) → these x → Contains list x

-- it has nothing but what it had and these
abbrev pub HasAtMost : {A : Type 0} → (A → Type 0) → List A → List A → Type 0
HasAtMost {A} these before after = (x : A) → Contains after x → Contains before x ⊎ these x

-- of what it had it has all of these
abbrev pub KeepsThese : {A : Type 0} → (A → Type 0) → List A → List A → Type 0
KeepsThese {A} these before after = (x : A) → Contains before x → these x → Contains after x

-- of what it had it has only these, and nothing else
abbrev pub KeepsOnly : {A : Type 0} → (A → Type 0) → List A → List A → Type 0
KeepsOnly {A} these before after = (x : A) → Contains after x → Contains before x × these x

-- of the numbers from the first to the last none is such
abbrev pub HasNoneFrom : ℕ → ℕ → (ℕ → Type 0) → Type 0
HasNoneFrom first last IsSuch = (a : ℕ) → first ≤ a → a ≤ last → IsSuch a → ⊥

-- the list has just those numbers from the first to the last that are such
abbrev pub HasThoseFrom : ℕ → ℕ → (ℕ → Type 0) → List ℕ → Type 0
HasThoseFrom first last IsSuch list = (a : ℕ) → Contains list a ↔ (IsSuch a × (first ≤ a) × (a ≤ last))
