-- The growth of a writer's known bytes.
use Rattle.std.proofs.Common.{◌≡◌, ◌≢◌, ℕ, List, [], ◌++◌, length, take, drop, Option, Some, None, refl, sym, ap, subst, ◌∙◌, append_assoc, append-nil, take-append-drop, ◌-◌}
use Rattle.std.proofs.lemmas.List.{take_rest, nil_from_length}
use Rattle.std.specs.Prelude.{Result, Ok, Err, OnErr, IfErr}
use Rattle.std.specs.Result.{IsErrAnd}
use Rattle.std.specs.Io.KnownBytes.{Appends}
use Rattle.replay.specs.Writing.{AppendsPart}

pub appends_none : (a : Option (List ℕ)) → Appends a a []
appends_none None = tt
appends_none (Some x) = sym (append-nil x)

pub appends_more : (a b c : Option (List ℕ)) (bs cs : List ℕ) → Appends a b bs → Appends b c cs → Appends a c (bs ++ cs)
appends_more None b c bs cs p q = tt
appends_more (Some x) None c bs cs p q = absurd p
appends_more (Some x) (Some y) None bs cs p q = absurd q
appends_more (Some x) (Some y) (Some z) bs cs p q = q ∙ ap (λ l. l ++ cs) p ∙ append_assoc x bs cs

-- a front of the bytes was written
pub record Gone (start now : Option (List ℕ)) (bytes rest : List ℕ) : Type 0 where
  pub front : List ℕ
  pub joined : bytes ≡ front ++ rest
  pub written : Appends start now front

pub gone_none : (a : Option (List ℕ)) (bytes : List ℕ) → Gone a a bytes bytes
gone_none a bytes = record { front = []; joined = refl; written = appends_none a }

pub gone_more : (a b c : Option (List ℕ)) (bytes rest : List ℕ) (n : ℕ) → Gone a b bytes rest → Appends b c (take n rest) → Gone a c bytes (take (length rest - n) (drop n rest))
gone_more a b c bytes rest n h more = record {
  front = h.front ++ take n rest;
  joined = h.joined ∙ ap (λ l. h.front ++ l) (sym (take-append-drop n rest)) ∙ sym (append_assoc h.front (take n rest) (drop n rest)) ∙ ap (λ l. (h.front ++ take n rest) ++ l) (sym (take_rest rest n));
  written = appends_more a b c h.front (take n rest) h.written more;
}

pub gone_all : (a b : Option (List ℕ)) (bytes rest : List ℕ) → length rest ≡ 0 → Gone a b bytes rest → Appends a b bytes
gone_all a b bytes rest none h = subst (Appends a b) (sym (h.joined ∙ ap (λ l. h.front ++ l) (nil_from_length rest none) ∙ append-nil h.front)) h.written

pub gone_part : (a b c : Option (List ℕ)) (bytes rest : List ℕ) → length rest ≢ 0 → Gone a b bytes rest → Appends b c [] → AppendsPart a c bytes
gone_part a b c bytes rest some h more = record {
  part = h.front;
  rest = rest;
  joined = h.joined;
  lacks = λ none. some (ap length none);
  written = subst (Appends a c) (append-nil h.front) (appends_more a b c h.front [] h.written more);
}

-- the result of a `?` that returns, if its error is known
pub err_as : {T E : Type 0} (Q : E → Type 0) (r : Result T E) (e : E) → IsErrAnd r (λ given. given ≡ e) → Q e → IfErr r Q
err_as Q (Ok x) e given q = tt
err_as Q (Err x) e given q = subst Q (sym given) q

pub on_err : {T E P : Type 0} (r : Result T E) → P → OnErr r P
on_err (Ok x) p = tt
on_err (Err e) p = p
