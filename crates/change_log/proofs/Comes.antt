-- The bytes of an input, some of which are held back.
use Rattle.std.proofs.Common.{◌≡◌, ℕ, List, [], ◌++◌, Option, Some, None, sym, ap, subst, ◌∙◌, append_assoc, append-nil}
use Rattle.std.proofs.KnownBytes.{Consumes-trans, prepend_known-nil}
use Rattle.std.specs.Io.KnownBytes.{Consumes, prepend_known}
use Rattle.input_reading.specs.Taking.{TakesLast, TakesNext, TakesNone, TakesWhole}
use Rattle.input_reading.specs.declared.reader.Next.{Next}
use Rattle.input_reading.specs.declared.reader.Next.TheVariants as next_is
use Rattle.change_log.specs.Streams.{ComesFrom}

pub held_none : (a : Option (List ℕ)) (held : List ℕ) → held ≡ [] → prepend_known held a ≡ a
held_none a held none = ap (λ l. prepend_known l a) none ∙ prepend_known-nil a

-- the bytes that were held back came too
pub comes_held : (a b : Option (List ℕ)) (bytes held : List ℕ) → Consumes a (prepend_known held b) bytes → ComesFrom a b bytes
comes_held a b bytes held read = record { ahead = held; read = with_held a b read }
  where
    with_held : (a b : Option (List ℕ)) → Consumes a (prepend_known held b) bytes → Consumes a b (bytes ++ held)
    with_held None b read = tt
    with_held (Some xs) None read = absurd read
    with_held (Some xs) (Some ys) read = read ∙ sym (append_assoc bytes held ys)

pub comes_behind : (a b c : Option (List ℕ)) (bytes more : List ℕ) → Consumes a b bytes → ComesFrom b c more → ComesFrom a c (bytes ++ more)
comes_behind a b c bytes more first next = record {
  ahead = next.ahead;
  read = subst (Consumes a c) (sym (append_assoc bytes more next.ahead)) (Consumes-trans a b c bytes (more ++ next.ahead) first next.read);
}

-- nothing was held back
pub comes_all : (a b : Option (List ℕ)) (bytes : List ℕ) → Consumes a b bytes → ComesFrom a b bytes
comes_all a b bytes read = record { ahead = []; read = subst (Consumes a b) (sym (append-nil bytes)) read }

-- a prefix of the bytes
pub comes_less : (a b : Option (List ℕ)) (bytes more : List ℕ) → ComesFrom a b (bytes ++ more) → ComesFrom a b bytes
comes_less a b bytes more h = record { ahead = more ++ h.ahead; read = subst (Consumes a b) (append_assoc bytes more h.ahead) h.read }

-- ---- what was taken next

module _ {old new line : List ℕ} {before after : Option (List ℕ)} (n : Next) (next : TakesNext old before new after line n) where
  pub line_taken : n ≡ next_is.Line → TakesWhole old before new after line
  line_taken is = subst (TakesNext old before new after line) is next

  pub last_taken : n ≡ next_is.Cut → TakesLast old before new after line
  last_taken is = subst (TakesNext old before new after line) is next

  pub none_taken : n ≡ next_is.End → TakesNone old before new after line
  none_taken is = subst (TakesNext old before new after line) is next
