-- Which addresses stub links join: by hosts, and by the masks of the networks around one end.
use Rattle.std.proofs.Common.{◌≡◌, ◌∙◌, ◌&&◌, ◌||◌, ◌==◌, ◌++◌, Bool, true, false, cond, List, [], ◌∷◌, ℕ, fold, refl, sym, ap, subst, bit_and}
use Rattle.std.specs.List.{list_any}
use Rattle.std.proofs.lemmas.List.Folds.{list_any-append}
use Rattle.std.proofs.lemmas.Bool.Decides.{Decides-eqb}
use Rattle.ospf_types.specs.declared.lsa.Link.{Link}
use Rattle.captured_config.specs.Interfaces.{is_stub, joins, lies_in}
use Rattle.captured_config.specs.Hosts.{agree, leads_around, leads_to_host, masks_around, with_mask, with_mask_around}

-- ---- tests

or_false : (a : Bool) → (a || false) ≡ a
or_false true = refl
or_false false = refl

or_assoc : (a b c : Bool) → ((a || b) || c) ≡ (a || (b || c))
or_assoc true b c = refl
or_assoc false b c = refl

or_same : (a b : Bool) → ((a || b) || a) ≡ (a || b)
or_same true b = refl
or_same false b = or_false b

or_swapped : (a b c d : Bool) → ((a || c) || (b || d)) ≡ ((a || b) || (c || d))
or_swapped true b c d = refl
or_swapped false true true d = refl
or_swapped false true false d = refl
or_swapped false false c d = refl

-- two tests of each element
either : (f g h : Link → Bool) → ((l : Link) → (f l || g l) ≡ h l) → (ls : List Link) → (list_any f ls || list_any g ls) ≡ list_any h ls
either f g h same [] = refl
either f g h same (l ∷ ls) =
    or_swapped (f l) (g l) (list_any f ls) (list_any g ls) ∙ ap (λ b. b || (list_any f ls || list_any g ls)) (same l) ∙ ap (λ b. h l || b) (either f g h same ls)

-- ---- masks, without duplicates

-- a mask that is among them changes no answer
known : (q : ℕ → Bool) (mask : ℕ) (masks : List ℕ) → list_any (λ m. m == mask) masks ≡ true → (list_any q masks || q mask) ≡ list_any q masks
known q mask [] has = absurd cc
known q mask (m ∷ masks) has =
    elim (m == mask) as (λ b. (m == mask) ≡ b → ((q m || list_any q masks) || q mask) ≡ (q m || list_any q masks)) [
      | true ↦ λ is. subst (λ (x : ℕ). ((q m || list_any q masks) || q x) ≡ (q m || list_any q masks)) ((Decides-eqb m mask).0 is) (or_same (q m) (list_any q masks))
      | false ↦ λ other. or_assoc (q m) (list_any q masks) (q mask) ∙ ap (λ b. q m || b) (known q mask masks (sym (ap (λ b. b || list_any (λ m. m == mask) masks) other) ∙ has))
    ] refl

any_with_mask : (q : ℕ → Bool) (masks : List ℕ) (mask : ℕ) → list_any q (with_mask masks mask) ≡ (list_any q masks || q mask)
any_with_mask q masks mask =
    elim (list_any (λ m. m == mask) masks) as (λ b. list_any (λ m. m == mask) masks ≡ b → list_any q (cond b masks (masks ++ mask ∷ [])) ≡ (list_any q masks || q mask)) [
      | true ↦ λ has. sym (known q mask masks has)
      | false ↦ λ new. list_any-append q masks (mask ∷ []) ∙ ap (λ b. list_any q masks || b) (or_false (q mask))
    ] refl

any_with_mask_around : (q : ℕ → Bool) (address : ℕ) (masks : List ℕ) (l : Link) → list_any q (with_mask_around address masks l) ≡ (list_any q masks || (leads_around address l && q l.detail))
any_with_mask_around q address masks l =
    elim (leads_around address l) as (λ b. list_any q (cond b (with_mask masks l.detail) masks) ≡ (list_any q masks || (b && q l.detail))) [
      | true ↦ any_with_mask q masks l.detail
      | false ↦ sym (or_false (list_any q masks))
    ]

any_around : (q : ℕ → Bool) (address : ℕ) (masks : List ℕ) (own : List Link)
    → list_any q (fold (with_mask_around address) masks own) ≡ (list_any q masks || list_any (λ l. leads_around address l && q l.detail) own)
any_around q address masks [] = sym (or_false (list_any q masks))
any_around q address masks (l ∷ own) =
    any_around q address (with_mask_around address masks l) own
    ∙ ap (λ b. b || list_any (λ l. leads_around address l && q l.detail) own) (any_with_mask_around q address masks l)
    ∙ or_assoc (list_any q masks) (leads_around address l && q l.detail) (list_any (λ l. leads_around address l && q l.detail) own)

-- ---- one stub link

tests : (stub near around host same : Bool) → (around ≡ true → same ≡ near) → ((stub && (near && host)) || ((stub && around) && same)) ≡ (stub && (near && (around || host)))
tests false near around host same is = refl
tests true near false host same is = or_false (near && host)
tests true true true true same is = refl
tests true true true false same is = is refl
tests true false true host same is = is refl

one_joins : (address peer : ℕ) (l : Link) → (leads_to_host peer l || (leads_around address l && agree address peer l.detail)) ≡ joins address peer l
one_joins address peer l =
    tests (is_stub l.kind) (lies_in peer l) (lies_in address l) (l.detail == 4294967295) (agree address peer l.detail)
    (λ is. ap (λ (network : ℕ). bit_and peer l.detail == network) ((Decides-eqb (bit_and address l.detail) (bit_and l.id l.detail)).0 is))

pub joined : (own : List Link) (address peer : ℕ) (masks : List ℕ) (host within : Bool) → masks ≡ masks_around address own → host ≡ list_any (leads_to_host peer) own → within ≡ list_any (agree address peer) masks
    → (host || within) ≡ list_any (joins address peer) own
joined own address peer masks host within are led lies =
    ap (λ b. b || within) led
    ∙ ap (λ b. list_any (leads_to_host peer) own || b) (lies ∙ ap (list_any (agree address peer)) are ∙ any_around (agree address peer) address [] own)
    ∙ either (leads_to_host peer) (λ l. leads_around address l && agree address peer l.detail) (joins address peer) (one_joins address peer) own
