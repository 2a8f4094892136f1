-- The result of a packet that was heard.
use Rattle.std.proofs.Common.{◌≡◌, ◌∙◌, ◌++◌, List, [], ℕ, Option, None, Some, inl, inr, refl, ap, sym, subst, append-nil}
use Rattle.std.specs.Prelude.{◌⊎◌, option_map, String, string_bytes}
use Rattle.packets.specs.declared.datagram_fault.DatagramFault.{DatagramFault}
use Rattle.captures.specs.Runs.{ShownPacket}
use Rattle.captured_config.specs.Facts.{facts_of}
use Rattle.captured_lsas.specs.declared.heard.Heard.{Heard}
use Rattle.captured_lsas.specs.declared.heard.Heard.TheVariants.{Other, Fault, Part, Whole}
use Rattle.captured_lsas.specs.declared.heard.Payload.{Payload}
use Rattle.captured_lsas.specs.Hearing.{IsHeard}
use Rattle.captured_lsas.specs.Packets.{IsPacketTaken, with_packet}
use Rattle.captured_lsas.specs.Payloads.{bytes_of}
use Rattle.capture_recording.specs.Counts.{with_heard, with_taken}
use Rattle.capture_recording.proofs.Gaining.{appended_none}
use Rattle.capture_recording.specs.Notes.{datagram_note}
use Rattle.capture_recording.specs.declared.gathered.Gathered.{Gathered}
use Rattle.capture_recording.specs.declared.session.Session.{Session}
use Rattle.capture_recording.specs.Steps.{IsTakenOf}
use Rattle.capture_recording.specs.Texts.{heard_notes}
use Rattle.capture_recording.specs.Folds.{with_taken_area}
use Rattle.capture_recording.specs.Gathering.{HearsOnly, TakesPacket, TakesPayload, waiting}

same_option : {A : Type 0} (o : Option A) → option_map (λ (x : A). x) o ≡ o
same_option None = refl
same_option (Some x) = refl

module _ (old : Session) (g : Gathered) (packet : ShownPacket) (heard : Heard) (hears : IsHeard packet.link packet.bytes old.gathered.listener g.listener heard)
    (counted : g.counts ≡ with_heard old.gathered.counts heard) (others : HearsOnly old.gathered g) where
  -- nothing is taken of it
  untaken : (text : String _) → IsTakenOf old.gathered.recorder g.recorder packet.time heard None → string_bytes text ≡ string_bytes old.notes.text ++ heard_notes packet.time heard None
      → TakesPacket old (record { gathered = g; lines = old.lines; kept = old.kept; notes = record { text = text; is_silent = old.notes.is_silent } }) packet
  untaken text none notes = record {
    step = record { packet = packet; heard = heard; taken = None };
    of = refl;
    gathers = record {
      is = record { hears = hears; takes = none };
      counts = counted;
      areas = others.areas;
      config = λ known are. others.config ∙ are ∙ ap (option_map facts_of) (sym (same_option known));
    };
    lines = appended_none (waiting old);
    keeps = λ none. none;
    notes = notes;
    silent = refl;
  }

  none_of : heard ≡ Other ⊎ heard ≡ Part → IsTakenOf old.gathered.recorder g.recorder packet.time heard None
  none_of (inl is) = subst (λ h. IsTakenOf old.gathered.recorder g.recorder packet.time h None) (sym is) (refl, others.recorder)
  none_of (inr is) = subst (λ h. IsTakenOf old.gathered.recorder g.recorder packet.time h None) (sym is) (refl, others.recorder)

  no_notes : heard ≡ Other ⊎ heard ≡ Part → heard_notes packet.time heard None ≡ []
  no_notes (inl is) = ap (λ h. heard_notes packet.time h None) is
  no_notes (inr is) = ap (λ h. heard_notes packet.time h None) is

  -- it brings nothing
  pub takes_nothing : heard ≡ Other ⊎ heard ≡ Part → TakesPacket old (record { gathered = g; lines = old.lines; kept = old.kept; notes = old.notes }) packet
  takes_nothing is = untaken old.notes.text (none_of is) (sym (append-nil (string_bytes old.notes.text)) ∙ ap (λ l. string_bytes old.notes.text ++ l) (sym (no_notes is)))

  -- its datagram has a fault
  pub takes_fault : (fault : DatagramFault) (text : String _) → heard ≡ Fault fault → string_bytes text ≡ string_bytes old.notes.text ++ datagram_note packet.time fault
      → TakesPacket old (record { gathered = g; lines = old.lines; kept = old.kept; notes = record { text = text; is_silent = old.notes.is_silent } }) packet
  takes_fault fault text is notes =
      untaken text (subst (λ h. IsTakenOf old.gathered.recorder g.recorder packet.time h None) (sym is) (refl, others.recorder))
      (notes ∙ ap (λ h. string_bytes old.notes.text ++ heard_notes packet.time h None) (sym is))

  -- it brings a payload, which is taken
  pub takes_whole : (sender : ℕ) (payload : Payload) (bytes : List ℕ) (new : Session) → heard ≡ Whole sender payload → bytes ≡ bytes_of payload
      → TakesPayload (record { gathered = g; lines = old.lines; kept = old.kept; notes = old.notes }) new packet.time sender bytes → TakesPacket old new packet
  takes_whole sender payload bytes new is same t = record {
    step = record { packet = packet; heard = heard; taken = Some t.taken };
    of = refl;
    gathers = record {
      is = record {
        hears = subst (λ l. IsHeard packet.link packet.bytes old.gathered.listener l heard) (sym t.listener) hears;
        takes = subst (λ h. IsTakenOf old.gathered.recorder new.gathered.recorder packet.time h (Some t.taken)) (sym is) (its_taken, its_progress);
      };
      counts = t.counts ∙ ap (λ c. with_taken c t.taken) counted;
      areas = t.areas ∙ ap (λ a. with_taken_area a t.taken) others.areas;
      config = λ known are. t.config known (others.config ∙ are);
    };
    lines = t.lines;
    keeps = t.keeps;
    notes = t.notes ∙ ap (λ h. string_bytes old.notes.text ++ heard_notes packet.time h (Some t.taken)) (sym is);
    silent = t.silent;
  } where
    its_taken : IsPacketTaken old.gathered.recorder packet.time (bytes_of payload) t.taken
    its_taken = subst (λ p. IsPacketTaken p packet.time (bytes_of payload) t.taken) others.recorder (subst (λ b. IsPacketTaken g.recorder packet.time b t.taken) same t.is)

    its_progress : new.gathered.recorder ≡ with_packet old.gathered.recorder packet.time (bytes_of payload)
    its_progress = t.recorder ∙ ap (with_packet g.recorder packet.time) same ∙ ap (λ p. with_packet p packet.time (bytes_of payload)) others.recorder
