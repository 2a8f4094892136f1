-- The causes of refusals.
use Rattle.std.specs.Prelude.{◌≡◌, ◌⊎◌, Some, None}
use Rattle.ospf_types.specs.FirstOf.{first_of}
use Rattle.lsdb.specs.declared.refusal.InstallRefusal.{InstallRefusal}
use Rattle.lsdb.specs.declared.refusal.InstallRefusal.TheVariants as install
use Rattle.event_state.specs.declared.event.Event.{Event}
use Rattle.event_state.specs.declared.refusal.Refusal.{Refusal}
use Rattle.event_state.specs.declared.refusal.Refusal.TheVariants as refusal
use Rattle.event_state.specs.States.{State}
use Rattle.event_state.specs.Steps.{refusal_of, early_tests_of, lasting_refusal_of}

-- the first of the table that holds, or Memory for an event that is taken otherwise
abbrev pub IsRefusalOf : State → Event → Refusal → Type 0
IsRefusalOf s e r = (refusal_of s e ≡ Some r) ⊎ ((r ≡ refusal.Memory) × (refusal_of s e ≡ None))

-- The first of the table that holds, without the test of the journal, which knows only how many
-- events were taken since the base; or Memory if none does. It is 28 JournalFull only
-- if none of the tests before refuses.
abbrev pub IsLastingRefusalOf : State → Event → Refusal → Type 0
IsLastingRefusalOf s e r =
    (lasting_refusal_of s e ≡ Some r)
    ⊎ (((r ≡ refusal.Memory) × (lasting_refusal_of s e ≡ None)) ⊎ ((r ≡ refusal.JournalFull) × (first_of (early_tests_of s e) ≡ None)))

-- a database's refusal of an LSA, as one of the event
abbrev pub refusal_for : InstallRefusal → Refusal
refusal_for install.Older = refusal.Older
refusal_for install.Same = refusal.Same
refusal_for install.Full = refusal.Full
refusal_for install.Memory = refusal.Memory
