-- Options that are written are read as they are.
use Rattle.std.proofs.Common.{◌≡◌, ℕ, suc, ◌+◌, ◌-◌, ◌≤◌, inl, inr, Bool, true, false, List, [], ◌∷◌, ◌++◌, length, drop, Result, Ok, refl, sym, ap, subst, ◌∙◌, arith, length-append, append_assoc}
use Rattle.std.specs.Prelude.{nat_le, ◌==◌, if◌then◌else◌, slice_index}
use Rattle.std.specs.List.{AllByRecursion}
use Rattle.std.proofs.Math.Seq.{drop-append_seam}
use Rattle.std.proofs.lemmas.Bool.{le-ltb, le-leb, ne_eqb, eqb-true}
use Rattle.captures.specs.declared.fault.FaultKind.{FaultKind}
use Rattle.captures.specs.declared.order.Order.{Order}
use Rattle.captures.specs.declared.order.Order.TheVariants.{Big, Little}
use Rattle.captures.specs.declared.time.Timing.{Timing}
use Rattle.captures.specs.Numbers.{number_of, number_at}
use Rattle.captures.specs.Options.{code_of, length_of, size_of, is_end, is_cut, with_option, with_options, timing_of, usual_timing}
use Rattle.captures.specs.Steps.{and_then}
use Rattle.captures.specs.Times.{resolution_of, offset_of}
use Rattle.captures.specs.WritingOptions.{WrittenOption, IsLegalSetting, setting_bytes, settings_bytes, IsEnd, told, told_by}
use Rattle.captures.proofs.Steady.{number_of-append}
use Rattle.captures.proofs.Walking.{goes_on, stops}
use Rattle.captures.proofs.Written.{again}

-- ---- the end

four_more : (more : List ℕ) → nat_le 4 (length (0 ∷ 0 ∷ 0 ∷ 0 ∷ more)) ≡ true
four_more more = le-leb _ _ (omega arith)

none_is_0 : (more : List ℕ) → (length (0 ∷ 0 ∷ 0 ∷ 0 ∷ more) == 0) ≡ false
none_is_0 more = ne_eqb _ _ (λ e. omega (arith, e))

ends_here : (order : Order) (more : List ℕ) → is_end order (0 ∷ 0 ∷ 0 ∷ 0 ∷ more) ≡ true
ends_here Big more = rw (four_more more, none_is_0 more) refl
ends_here Little more = rw (four_more more, none_is_0 more) refl

end_written : (order : Order) (end : List ℕ) → IsEnd end → is_end order end ≡ true
end_written order end (inl none) = subst (λ (b : List ℕ). is_end order b ≡ true) (sym none) refl
end_written order end (inr last) = subst (λ (b : List ℕ). is_end order b ≡ true) (sym last.1) (ends_here order last.0)

-- ---- one option

-- the option is at the start of the bytes
pub record HasSetting (order : Order) (s : WrittenOption) (tail bytes : List ℕ) : Type 0 where
  pub code : code_of order bytes ≡ s.code
  pub size : length_of order bytes ≡ length s.value
  pub long : 4 + length s.value + length s.filling + length tail ≡ length bytes
  pub first : 1 ≤ length s.value → slice_index bytes 4 ≡ slice_index s.value 0
  pub number : 8 ≤ length s.value → number_at order 8 4 bytes ≡ number_of order 8 s.value
  pub behind : drop (4 + (length s.value + length s.filling)) bytes ≡ tail

first_of_front : (xs ys zs : List ℕ) → 1 ≤ length xs → slice_index ((xs ++ ys) ++ zs) 0 ≡ slice_index xs 0
first_of_front [] ys zs long = absurd (omega (arith, long))
first_of_front (x ∷ xs) ys zs long = refl

number_of_front : (order : Order) (xs ys zs : List ℕ) → 8 ≤ length xs → number_of order 8 ((xs ++ ys) ++ zs) ≡ number_of order 8 xs
number_of_front order xs ys zs long =
    number_of-append order 8 (xs ++ ys) zs (omega (arith, long, length-append xs ys)) ∙ number_of-append order 8 xs ys long

long_in_all : (xs ys zs : List ℕ) → length ((xs ++ ys) ++ zs) ≡ length xs + length ys + length zs
long_in_all xs ys zs = omega (arith, length-append (xs ++ ys) zs, length-append xs ys)

behind_all : (xs ys zs : List ℕ) → drop (length xs + length ys) ((xs ++ ys) ++ zs) ≡ zs
behind_all xs ys zs =
    ap (λ n. drop n ((xs ++ ys) ++ zs)) (sym (length-append xs ys)) ∙ drop-append_seam (xs ++ ys) zs

drop_past : (a b c d : ℕ) (n : ℕ) (xs : List ℕ) → drop (4 + n) (a ∷ b ∷ c ∷ d ∷ xs) ≡ drop n xs
drop_past a b c d n xs = ap (λ m. drop m (a ∷ b ∷ c ∷ d ∷ xs)) (let e : 4 + n ≡ suc (suc (suc (suc n))) = omega arith in e)

setting_there : (order : Order) (s : WrittenOption) (tail : List ℕ) → IsLegalSetting s → HasSetting order s tail (setting_bytes order s ++ tail)
setting_there Big s tail legal = record {
  code = again Big 2 s.code (drop 2 (setting_bytes Big s ++ tail)) legal.code;
  size = again Big 2 (length s.value) (drop 4 (setting_bytes Big s ++ tail)) legal.value;
  long = omega (arith, long_in_all s.value s.filling tail);
  first = first_of_front s.value s.filling tail;
  number = number_of_front Big s.value s.filling tail;
  behind = drop_past _ _ _ _ (length s.value + length s.filling) ((s.value ++ s.filling) ++ tail) ∙ behind_all s.value s.filling tail;
}
setting_there Little s tail legal = record {
  code = again Little 2 s.code (drop 2 (setting_bytes Little s ++ tail)) legal.code;
  size = again Little 2 (length s.value) (drop 4 (setting_bytes Little s ++ tail)) legal.value;
  long = omega (arith, long_in_all s.value s.filling tail);
  first = first_of_front s.value s.filling tail;
  number = number_of_front Little s.value s.filling tail;
  behind = drop_past _ _ _ _ (length s.value + length s.filling) ((s.value ++ s.filling) ++ tail) ∙ behind_all s.value s.filling tail;
}

-- ---- what it says

pick : (test : Bool) (x y : Result Timing FaultKind) (u v : Timing) → (test ≡ true → x ≡ Ok u) → (test ≡ false → y ≡ Ok v) → (if test then x else y) ≡ Ok (if test then u else v)
pick true x y u v first second = first refl
pick false x y u v first second = second refl

if_so : (test : Bool) (x y z : Result Timing FaultKind) → test ≡ true → x ≡ z → (if test then x else y) ≡ z
if_so true x y z is e = e
if_so false x y z is e = absurd cc

says : (order : Order) (s : WrittenOption) (tail bytes : List ℕ) (timing : Timing) → IsLegalSetting s → HasSetting order s tail bytes → with_option order bytes timing ≡ Ok (told order s timing)
says order s tail bytes timing legal has =
    rw (has.code, has.size)
    (pick (s.code == 9) _ _ _ _
    (λ nine.
    let one = legal.resolution (eqb-true _ _ nine) in
    if_so (length s.value == 1) _ _ _ (ap (λ n. n == 1) one) (ap (λ b. Ok (record timing { resolution = resolution_of b })) (has.first (omega (arith, one)))))
    (λ _. pick (s.code == 14) _ _ _ _
    (λ fourteen.
    let eight = legal.offset (eqb-true _ _ fourteen) in
    if_so (length s.value == 8) _ _ _ (ap (λ n. n == 8) eight) (ap (λ b. Ok (record timing { offset = offset_of b })) (has.number (omega (arith, eight)))))
    (λ _. refl)))

goes_past : (order : Order) (s : WrittenOption) (tail bytes : List ℕ) (n : ℕ) (timing : Timing) → IsLegalSetting s → HasSetting order s tail bytes
    → with_options order (suc n) bytes timing ≡ with_options order n tail (told order s timing)
goes_past order s tail bytes n timing legal has =
    let some : (length bytes == 0) ≡ false = ne_eqb _ _ (λ e. omega (arith, e, has.long)) in
    let going : (code_of order bytes == 0) ≡ false = ne_eqb _ _ (λ e. legal.further (sym has.code ∙ e)) in
    let four : nat_le 4 (length bytes) ≡ true = le-leb _ _ (omega (arith, has.long)) in
    let more : is_end order bytes ≡ false = rw (some, going, four) refl in
    let all : size_of order bytes ≡ 4 + (length s.value + length s.filling) = rw (has.size, legal.filled) refl in
    let whole : is_cut order bytes ≡ false = rw (le-ltb (length bytes) 4 (omega (arith, has.long)), le-ltb (length bytes) (size_of order bytes) (omega (arith, has.long, all))) refl in
    goes_on order n bytes timing more whole
    ∙ ap (λ r. and_then r (λ t. with_options order n (drop (size_of order bytes) bytes) t)) (says order s tail bytes timing legal has)
    ∙ ap (λ (b : List ℕ). with_options order n b (told order s timing)) (ap (λ m. drop m bytes) all ∙ has.behind)

-- ---- all options

walks : (order : Order) (settings : List WrittenOption) (end : List ℕ) (n : ℕ) (timing : Timing) → AllByRecursion IsLegalSetting settings → IsEnd end
    → length (settings_bytes order settings ++ end) ≤ n → with_options order n (settings_bytes order settings ++ end) timing ≡ Ok (told_by order settings timing)
walks order [] end n timing legal ends fits = stops order n end timing (end_written order end ends)
walks order (s ∷ settings) end n timing legal ends fits =
    let tail = settings_bytes order settings ++ end in
    let has = setting_there order s tail legal.0 in
    let same : (setting_bytes order s ++ settings_bytes order settings) ++ end ≡ setting_bytes order s ++ tail = append_assoc (setting_bytes order s) (settings_bytes order settings) end in
    let long : 4 + length tail ≤ n = omega (arith, fits, ap length same, has.long) in
    let counted : n ≡ suc (n - 1) = omega (arith, long) in
    ap (λ (b : List ℕ). with_options order n b timing) same
    ∙ ap (λ m. with_options order m (setting_bytes order s ++ tail) timing) counted
    ∙ goes_past order s tail (setting_bytes order s ++ tail) (n - 1) timing legal.0 has
    ∙ walks order settings end (n - 1) (told order s timing) legal.1 ends (omega (arith, long))

pub settings_told : (order : Order) (settings : List WrittenOption) (end : List ℕ) → AllByRecursion IsLegalSetting settings → IsEnd end
    → timing_of order (settings_bytes order settings ++ end) ≡ Ok (told_by order settings usual_timing)
settings_told order settings end legal ends =
    walks order settings end (length (settings_bytes order settings ++ end)) usual_timing legal ends (omega arith)
