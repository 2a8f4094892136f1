-- Each step keeps the rule of what is published.
use Rattle.std.proofs.Common.{◌≡◌, ◌≢◌, ℕ, [], ◌∷◌, Option, Some, None, set, refl, sym, ap, ◌∙◌, subst, ⊎_elim}
use mathlib.Core.List.{IsPrefix}
use mathlib.Core.Option.{some, some-ne-none}
use lib.ListN.{get_elem?}
use Rattle.crossbeam_utils.specs.Register.{Admits, TurnsAt, Turns, Forks, Merges}
use Rattle.atomic_table.proofs.Lists.{at_set, at_snoc, set_again}
use Rattle.publication.proofs.Prefixes.{prefix_self}
use Rattle.publication.specs.declared.published_table.PublishedTable.{PublishedTable}
use Rattle.publication.specs.Names.{Name}
use Rattle.publication.specs.Published.{IsShownRight, name_of, Holds, Saw}

known : (a b : Name) → Some a ≡ Some b → a ≡ b
known a b e = cc e

-- a thread that knows nothing
pub begins : (x : PublishedTable) → IsShownRight x → Holds x (None ∷ [])
begins x right = (right, λ seat n at. ⊎_elim (λ (e : get_elem? [] seat ≡ some (Some n)). absurd (some-ne-none (Some n) (sym e))) (λ (e : None ≡ Some n). absurd (cc e)) (at_snoc [] None (Some n) seat at))

pub admits : Admits Holds None
admits x views h = (h.0, λ seat n at. ⊎_elim (h.1 seat n) (λ (e : None ≡ Some n). absurd (cc e)) (at_snoc views None (Some n) seat at))

-- the published table becomes another one of the same engine, for a longer list
pub publishes : (seat : ℕ) (v : Option Name) (x y : PublishedTable) → name_of y ≡ name_of x → IsShownRight y → IsPrefix x.front.list y.front.list → TurnsAt Holds seat v x y Saw
publishes seat v x y same right grows views h at = (
  Some (name_of y),
  (
    right,
    λ j n e. ⊎_elim
        (λ (t : (j ≡ seat) × (Some (name_of y) ≡ Some n)). sym (known (name_of y) n t.1))
        (λ (t : (j ≢ seat) × (get_elem? views j ≡ some (Some n))). h.1 j n t.1 ∙ sym same)
        (at_set views seat j (Some (name_of y)) (Some n) e),
  ),
  (refl, right, (λ n is. h.1 seat n (at ∙ ap some is) ∙ sym same), grows),
)

-- a reader sees what is shown
pub enters : (seat : ℕ) (v : Option Name) → Turns Holds seat v (λ x. x) Saw
enters seat v x views h at = publishes seat v x x refl h.0 (prefix_self x.front.list) views h at

pub forks : (seat : ℕ) (v : Option Name) → Forks Holds seat v v v
forks seat v x views h at = (
  h.0,
  λ j n e. ⊎_elim
      (λ was. h.1 j n (subst (λ l. get_elem? l j ≡ some (Some n)) (set_again views seat v at) was))
      (λ (s : v ≡ Some n). h.1 seat n (at ∙ ap some s))
      (at_snoc (set views seat v) v (Some n) j e),
)

pub merges : (seat : ℕ) (v : Option Name) (other : ℕ) (w : Option Name) → Merges Holds seat v other w w None
merges seat v other w x views h at apart there =
    let theirs = ⊎_elim (λ (t : (other ≡ seat) × (w ≡ w)). absurd (apart t.0)) (λ (t : (other ≢ seat) × (get_elem? views other ≡ some w)). t.1) (at_set views seat other w w there) in (
      h.0,
      λ j n e. ⊎_elim
          (λ (t : (j ≡ other) × (None ≡ Some n)). absurd (cc (t.1)))
          (λ (t : (j ≢ other) × (get_elem? (set views seat w) j ≡ some (Some n))). ⊎_elim
          (λ (u : (j ≡ seat) × (w ≡ Some n)). h.1 other n (theirs ∙ ap some u.1))
          (λ (u : (j ≢ seat) × (get_elem? views j ≡ some (Some n))). h.1 j n u.1)
          (at_set views seat j w (Some n) t.1))
          (at_set (set views seat w) other j None (Some n) e),
    )
