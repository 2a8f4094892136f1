-- A forwarder that learned the tokens of answers.
use Rattle.std.proofs.Common.{◌≡◌, List, [], ◌∷◌, ◌++◌, map, All, Option, Some, None, IfSome, MatchOption, ◌≢◌, refl, sym, ap, subst, ◌∙◌, append_assoc, append-nil}
use Rattle.std.specs.Prelude.{Result, Ok, Err}
use Rattle.std.proofs.lemmas.List.{map-append}
use Rattle.std.proofs.lemmas.List.Elements.{All-nil, All-cons, All-head, All-tail, All-push, All-weaker}
use mathlib.Core.List.{IsPrefix}
use Rattle.event_state.specs.declared.event.Event.{Event}
use Rattle.event_state.specs.declared.refusal.Refusal.{Refusal}
use Rattle.engine.specs.Reply.{Reply}
use Rattle.engine.specs.Status.TheVariants.{Current, Behind}
use Rattle.publication.specs.Forwarders.{ForwarderValue}
use Rattle.publication.specs.Names.{Name}
use Rattle.publication.specs.Published.{IsLegalHistory}
use Rattle.publication.specs.Told.{TokenValue}
use Rattle.publication.proofs.Prefixes.{prefix_trans}
use Rattle.engine.specs.Answers.{AreAnswered, IsAnswered}
use Rattle.engine.specs.declared.answer.Answer.{Answer}
use Rattle.engine.specs.declared.answer.Refused.{Refused}
use Rattle.worker_replay.specs.Runs.{Answers, IsAfter, told_of, reply_of}
use Rattle.worker_replay.specs.Parts.{IsTokenOf}

at_seam : {X : Type 0} (P : X → Type 0) (done more : List X) (x : X) → All P (done ++ x ∷ more) → P x
at_seam P [] more x all = All-head P x more all
at_seam P (y ∷ done) more x all = at_seam P done more x (All-tail P y (done ++ x ∷ more) all)

longer : (told : Option TokenValue) (xs ys : List Event) → IsPrefix xs ys → IfSome told (λ t. IsPrefix t.list xs) → IfSome told (λ t. IsPrefix t.list ys)
longer None xs ys grown is = tt
longer (Some t) xs ys grown is = prefix_trans t.list xs ys is grown

pub all_longer : (xs ys : List Event) (answers : Answers) → IsPrefix xs ys → All (IsAfter xs) answers → All (IsAfter ys) answers
all_longer xs ys answers grown all = All-weaker (IsAfter xs) (IsAfter ys) (λ a is. longer (told_of a) xs ys grown is) answers all

-- the tokens of these answers were learned, and what is printed of them was kept
pub record Learning (name : Name) (all rest : Answers) (f : ForwarderValue) (replies : List (Result Reply Refusal)) : Type 0 where
  pub done : Answers
  pub whole : all ≡ done ++ rest
  pub named : f.name ≡ name
  pub after : All (IsAfter f.known) done
  pub replied : replies ≡ map reply_of done

pub learning_none : (all rest : Answers) (f : ForwarderValue) (replies : List (Result Reply Refusal)) → all ≡ rest → replies ≡ [] → Learning f.name all rest f replies
learning_none all rest f replies is none = record { done = []; whole = is; named = refl; after = All-nil (IsAfter f.known); replied = none }

-- the token of the next answer may be learned
pub next_is_of : (name : Name) (all rest more : Answers) (f : ForwarderValue) (replies : List (Result Reply Refusal)) (a : Result Answer Refused) (told : Option TokenValue) → All (IsTokenOf name) all → Learning name all rest f replies → rest ≡ a ∷ more
    → told ≡ told_of a → IfSome told (λ t. t.name ≡ f.name)
next_is_of name all rest more f replies a told own h next is =
    let here : IsTokenOf name a = at_seam (IsTokenOf name) h.done more a (subst (All (IsTokenOf name)) (h.whole ∙ ap (λ w. h.done ++ w) next) own) in
    subst (λ (n : Name). IfSome told (λ t. t.name ≡ n)) (sym h.named) (subst (λ (o : Option TokenValue). IfSome o (λ t. t.name ≡ name)) (sym is) here)

pub learning_more : (name : Name) (all rest more : Answers) (f g : ForwarderValue) (replies put : List (Result Reply Refusal)) (a : Result Answer Refused) (told : Option TokenValue) (reply : Result Reply Refusal) → Learning name all rest f replies
    → rest ≡ a ∷ more → told ≡ told_of a → reply ≡ reply_of a → put ≡ replies ++ reply ∷ [] → g.name ≡ f.name → IsPrefix f.known g.known → IfSome told (λ t. IsPrefix t.list g.known) → Learning name all more g put
learning_more name all rest more f g replies put a told reply h next told_is reply_is put_is same grown learned = record {
  done = h.done ++ a ∷ [];
  whole = h.whole ∙ ap (λ w. h.done ++ w) next ∙ sym (append_assoc h.done (a ∷ []) more);
  named = same ∙ h.named;
  after = All-push (IsAfter g.known) h.done a (all_longer f.known g.known h.done grown h.after) (subst (λ (o : Option TokenValue). IfSome o (λ t. IsPrefix t.list g.known)) told_is learned);
  replied = put_is ∙ (λ i. h.replied i ++ reply_is i ∷ []) ∙ sym (map-append reply_of h.done (a ∷ []));
}

pub learned_all : (name : Name) (all rest : Answers) (f : ForwarderValue) (replies : List (Result Reply Refusal)) → Learning name all rest f replies → rest ≡ [] → All (IsAfter f.known) all × (replies ≡ map reply_of all)
learned_all name all rest f replies h none =
    let same : all ≡ h.done = h.whole ∙ ap (λ w. h.done ++ w) none ∙ append-nil h.done in
    (subst (All (IsAfter f.known)) (sym same) h.after, h.replied ∙ ap (map reply_of) (sym same))

-- ---- the answers of an engine have its tokens

if_weaker : (P : Type 0) (Q R : TokenValue → Type 0) (told : Option TokenValue) → ((t : TokenValue) → Q t → R t) → MatchOption told P Q → IfSome told R
if_weaker P Q R None weaker h = tt
if_weaker P Q R (Some t) weaker h = weaker t h

own_told : (name : Name) (e : Event) (a : Result Answer Refused) → IsAnswered name e a → IsTokenOf name a
own_told name e (Ok a) h =
    if_weaker (a.reply.state ≡ Behind) (λ t. (a.reply.state ≡ Current) × (t.name ≡ name) × (t.list ≡ h.0 ++ e ∷ []) × IsLegalHistory name.base t.list) (λ t. t.name ≡ name) a.told (λ t is. is.1) h.2
own_told name e (Err r) h = if_weaker (h.0 ≢ []) (λ t. (t.name ≡ name) × (t.list ≡ h.0)) (λ t. t.name ≡ name) r.told (λ t is. is.0) h.3

pub all_own : (name : Name) (events : List Event) (answers : Answers) → AreAnswered name events answers → All (IsTokenOf name) answers
all_own name [] [] h = All-nil (IsTokenOf name)
all_own name [] (a ∷ answers) h = absurd h
all_own name (e ∷ events) [] h = absurd h
all_own name (e ∷ events) (a ∷ answers) h = All-cons (IsTokenOf name) a answers (own_told name e a h.0) (all_own name events answers h.1)
