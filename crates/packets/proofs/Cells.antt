-- Bytes, and which of them were received.
use Rattle.std.proofs.Common.{◌≡◌, ℕ, zero, suc, ◌+◌, ◌-◌, ◌≤◌, Bool, true, false, ◌&&◌, List, [], ◌∷◌, ◌++◌, length, take, drop, map, replicate, refl, sym, ap, ◌∙◌, Option, Some, None, is_some, arith}
use Rattle.std.specs.List.{list_all}
use Rattle.std.specs.Option.{unwrap_or}
use Rattle.std.proofs.lemmas.List.{length-append, length-take, length-take-le, length-drop, length-replicate, take-append-le, take-append-drop, take_all, take-take, append-nil}
use Rattle.packets.specs.declared.key.FragmentKey.{FragmentKey}
use Rattle.packets.specs.Kept.{Kept, cells, grown, written}

pub length-cells : (came : List Bool) (bytes : List ℕ) → length came ≤ length bytes → length (cells came bytes) ≡ length came
length-cells [] bytes enough = refl
length-cells (c ∷ came) [] enough = absurd (omega arith)
length-cells (c ∷ came) (b ∷ bytes) enough = ap (λ (n : ℕ). suc n) (length-cells came bytes (omega arith))

pub cells-append : (a b : List Bool) (x y : List ℕ) → length a ≡ length x → cells (a ++ b) (x ++ y) ≡ cells a x ++ cells b y
cells-append [] b [] y same = refl
cells-append [] b (z ∷ x) y same = absurd (omega arith)
cells-append (c ∷ a) b [] y same = absurd (omega arith)
cells-append (c ∷ a) b (z ∷ x) y same = ap (λ (r : List (Option ℕ)). cells (c ∷ []) (z ∷ []) ++ r) (cells-append a b x y (omega arith))

-- bytes past the places say nothing
pub cells-front : (came : List Bool) (bytes : List ℕ) → cells came (take (length came) bytes) ≡ cells came bytes
cells-front [] bytes = refl
cells-front (c ∷ came) [] = refl
cells-front (c ∷ came) (b ∷ bytes) = ap (λ (r : List (Option ℕ)). cells (c ∷ []) (b ∷ []) ++ r) (cells-front came bytes)

cells-empty : (n : ℕ) (bytes : List ℕ) → n ≤ length bytes → cells (replicate n false) bytes ≡ replicate n None
cells-empty zero bytes enough = refl
cells-empty (suc n) [] enough = absurd (omega arith)
cells-empty (suc n) (b ∷ bytes) enough = ap (λ (r : List (Option ℕ)). None ∷ r) (cells-empty n bytes (omega arith))

cells-full : (bytes : List ℕ) → cells (replicate (length bytes) true) bytes ≡ map (λ b. Some b) bytes
cells-full [] = refl
cells-full (b ∷ bytes) = ap (λ (r : List (Option ℕ)). Some b ∷ r) (cells-full bytes)

cells-take : (n : ℕ) (came : List Bool) (bytes : List ℕ) → cells (take n came) (take n bytes) ≡ take n (cells came bytes)
cells-take zero came bytes = refl
cells-take (suc n) [] bytes = refl
cells-take (suc n) (c ∷ came) [] = refl
cells-take (suc n) (c ∷ came) (b ∷ bytes) = ap (λ (r : List (Option ℕ)). cells (c ∷ []) (b ∷ []) ++ r) (cells-take n came bytes)

cells-drop : (n : ℕ) (came : List Bool) (bytes : List ℕ) → length came ≤ length bytes → cells (drop n came) (drop n bytes) ≡ drop n (cells came bytes)
cells-drop zero came bytes enough = refl
cells-drop (suc n) [] bytes enough = refl
cells-drop (suc n) (c ∷ came) [] enough = absurd (omega arith)
cells-drop (suc n) (c ∷ came) (b ∷ bytes) enough = cells-drop n came bytes (omega arith)

-- ---- more places

-- the bytes in front stay
same_front : (n size : ℕ) (bytes : List ℕ) → n ≤ size → n ≤ length bytes → take n (take size bytes ++ replicate (size - length bytes) 0) ≡ take n bytes
same_front n size bytes small enough =
    let long : n ≤ length (take size bytes) = omega (arith, length-take size bytes) in
    take-append-le n (take size bytes) (replicate (size - length bytes) 0) long ∙ take-take n size bytes small

pub longer : (size : ℕ) (came : List Bool) (bytes : List ℕ) → length came ≤ size → length came ≤ length bytes
    → cells came (take size bytes ++ replicate (size - length bytes) 0) ≡ cells came bytes
longer size came bytes small enough =
    sym (cells-front came (take size bytes ++ replicate (size - length bytes) 0))
    ∙ ap (cells came) (same_front (length came) size bytes small enough)
    ∙ cells-front came bytes

pub all_grown : (size : ℕ) (came : List Bool) (bytes : List ℕ) → length came ≤ size → length came ≤ length bytes
    → cells (take size came ++ replicate (size - length came) false) (take size bytes ++ replicate (size - length bytes) 0) ≡ grown size (cells came bytes)
all_grown size came bytes small enough =
    let n : ℕ = length came in
    let more : List ℕ = take size bytes ++ replicate (size - length bytes) 0 in
    let empty : List Bool = replicate (size - n) false in
    let filled : length more ≡ size = omega (arith, length-append (take size bytes) (replicate (size - length bytes) 0), length-take size bytes, length-replicate {A = ℕ} (size - length bytes) 0) in
    let inside : n ≡ length (take n more) = sym (length-take-le n more (omega arith)) in
    let behind : size - n ≤ length (drop n more) = omega (arith, length-drop n more) in
    ap (λ (c : List Bool). cells (c ++ empty) more) (take_all size came small)
    ∙ ap (cells (came ++ empty)) (sym (take-append-drop n more))
    ∙ cells-append came empty (take n more) (drop n more) inside
    ∙ ap (λ (r : List (Option ℕ)). r ++ cells empty (drop n more)) (cells-front came more ∙ longer size came bytes small enough)
    ∙ ap (λ (r : List (Option ℕ)). cells came bytes ++ r) (cells-empty (size - n) (drop n more) behind)
    ∙ ap (λ (k : ℕ). cells came bytes ++ replicate (size - k) None) (sym (length-cells came bytes enough))

pub none_grown : (size : ℕ) (came : List Bool) (bytes : List ℕ) → size ≤ length came → length came ≤ length bytes → cells came bytes ≡ grown size (cells came bytes)
none_grown size came bytes small enough =
    let none : size - length (cells came bytes) ≡ 0 = omega (arith, length-cells came bytes enough) in
    sym (append-nil (cells came bytes)) ∙ ap (λ (k : ℕ). cells came bytes ++ replicate k None) (sym none)

-- ---- bytes at an offset

pub all_written : (offset : ℕ) (payload : List ℕ) (came : List Bool) (bytes : List ℕ) → offset + length payload ≤ length came → length came ≤ length bytes
    → cells (take offset came ++ replicate (length payload) true ++ drop (offset + length payload) came) (take offset bytes ++ payload ++ drop (offset + length payload) bytes)
    ≡ written offset payload (cells came bytes)
all_written offset payload came bytes inside enough =
    let end : ℕ = offset + length payload in
    let marks : List Bool = replicate (length payload) true in
    let marked : length marks ≡ length payload = length-replicate (length payload) true in
    let front : length (take offset came) ≡ length (take offset bytes) = omega (arith, length-take offset came, length-take offset bytes) in
    let both : length (take offset came ++ marks) ≡ length (take offset bytes ++ payload) = omega (arith, length-append (take offset came) marks, length-append (take offset bytes) payload) in
    cells-append (take offset came ++ marks) (drop end came) (take offset bytes ++ payload) (drop end bytes) both
    ∙ ap (λ (r : List (Option ℕ)). r ++ cells (drop end came) (drop end bytes)) (cells-append (take offset came) marks (take offset bytes) payload front)
    ∙ ap (λ (r : List (Option ℕ)). cells (take offset came) (take offset bytes) ++ r ++ cells (drop end came) (drop end bytes)) (cells-full payload)
    ∙ ap (λ (r : List (Option ℕ)). r ++ map (λ b. Some b) payload ++ cells (drop end came) (drop end bytes)) (cells-take offset came bytes)
    ∙ ap (λ (r : List (Option ℕ)). take offset (cells came bytes) ++ map (λ b. Some b) payload ++ r) (cells-drop end came bytes enough)

-- ---- whole

pub all_came : (came : List Bool) (bytes : List ℕ) → length came ≤ length bytes → list_all (λ c. c) came ≡ list_all is_some (cells came bytes)
all_came [] bytes enough = refl
all_came (c ∷ came) [] enough = absurd (omega arith)
all_came (true ∷ came) (b ∷ bytes) enough = all_came came bytes (omega arith)
all_came (false ∷ came) (b ∷ bytes) enough = refl

pub all_bytes : (came : List Bool) (bytes : List ℕ) → length came ≤ length bytes → list_all is_some (cells came bytes) ≡ true
    → take (length came) bytes ≡ map (λ b. unwrap_or b 0) (cells came bytes)
all_bytes [] bytes enough whole = refl
all_bytes (c ∷ came) [] enough whole = absurd (omega arith)
all_bytes (true ∷ came) (b ∷ bytes) enough whole = ap (λ (r : List ℕ). b ∷ r) (all_bytes came bytes (omega arith) whole)
all_bytes (false ∷ came) (b ∷ bytes) enough whole = absurd cc

pub whole_all : (has_end all : Bool) → (has_end && all) ≡ true → all ≡ true
whole_all true all e = e
whole_all false all e = absurd cc

-- with equal bytes it is seen as the same
pub seen_as : (key : FragmentKey) (has_end : Bool) (a b : List (Option ℕ)) (now : Kept) → a ≡ b
    → (let k : Kept = record { key = key; has_end = has_end; bytes = b } in k) ≡ now → (let k : Kept = record { key = key; has_end = has_end; bytes = a } in k) ≡ now
seen_as key has_end a b now e f = ap (λ (bytes : List (Option ℕ)). record { key = key; has_end = has_end; bytes = bytes }) e ∙ f
