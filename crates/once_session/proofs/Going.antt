-- Acts one after another.
use Rattle.std.proofs.Common.{◌≡◌, ℕ, List, [], ◌∷◌, ◌++◌, Option, refl, sym, ap, ◌∙◌, subst, append_assoc, append-nil}
use Rattle.std.specs.Io.KnownBytes.{Appends, Keeps}
use Rattle.std.proofs.KnownBytes.{Appends-kept, Appends-nil, Appends-trans}
use Rattle.fix_session.specs.Reader.{Reader}
use Rattle.venue_world.specs.declared.world_event.WorldEvent.{WorldEvent}
use Rattle.venue_world.specs.Headline.{given_by, given_from}
use Rattle.venue_world.specs.Seen.{Done, Seen, Shows}
use Rattle.venue_world.specs.World.{WorldState, after_act, after_all}
use Rattle.once_session.specs.Acts.{Leads, MayCome, pieces, pieces_by}
use Rattle.once_session.specs.Course.{IsSomewhere, Went, Wrote}

pub after-append : (r : Reader) (w : WorldState) (acts more : List WorldEvent) → after_all r w (acts ++ more) ≡ after_all r (after_all r w acts) more
after-append r w [] more = refl
after-append r w (a ∷ acts) more = after-append r (after_act r w a) acts more

leads-append : (r : Reader) (t : ℕ) (w : WorldState) (acts more : List WorldEvent) → Leads r t w acts → Leads r t (after_all r w acts) more → Leads r t w (acts ++ more)
leads-append r t w [] more l k = k
leads-append r t w (a ∷ acts) more l k = (l.0, leads-append r t (after_act r w a) acts more l.1 k)

pieces-append : (acts more : List WorldEvent) → pieces (acts ++ more) ≡ pieces acts ++ pieces more
pieces-append [] more = refl
pieces-append (a ∷ acts) more = ap (λ (l : List ℕ). pieces_by a ++ l) (pieces-append acts more) ∙ sym (append_assoc (pieces_by a) (pieces acts) (pieces more))

pub given-append : (r : Reader) (w : WorldState) (acts more : List WorldEvent) → given_from r 0 w (acts ++ more) ≡ given_from r 0 w acts ++ given_from r 0 (after_all r w acts) more
given-append r w [] more = refl
given-append r w (a ∷ acts) more =
    ap (λ (l : List ℕ). given_by 0 w a ++ l) (given-append r (after_act r w a) acts more)
    ∙ sym (append_assoc (given_by 0 w a) (given_from r 0 (after_act r w a) acts) (given_from r 0 (after_all r (after_act r w a) acts) more))

pub went-nil : (t : ℕ) (s : Seen) → Went t s s [] []
went-nil t s = record { acts = []; leads = λ r w shows. tt; shows = λ r w shows. shows; reads = refl; gives = λ r w shows. refl }

pub went-then : (t : ℕ) (a b c : Seen) (x y g h : List ℕ) → Went t a b x g → Went t b c y h → Went t a c (x ++ y) (g ++ h)
went-then t a b c x y g h p q = record {
  acts = p.acts ++ q.acts;
  leads = λ r w shows. leads-append r t w p.acts q.acts (p.leads r w shows) (q.leads r (after_all r w p.acts) (p.shows r w shows));
  shows = λ r w shows. subst (Shows c) (sym (after-append r w p.acts q.acts)) (q.shows r (after_all r w p.acts) (p.shows r w shows));
  reads = pieces-append p.acts q.acts ∙ ap (λ (l : List ℕ). l ++ pieces q.acts) p.reads ∙ ap (λ (l : List ℕ). x ++ l) q.reads;
  gives = λ r w shows.
      given-append r w p.acts q.acts
      ∙ ap (λ (l : List ℕ). l ++ given_from r 0 (after_all r w p.acts) q.acts) (p.gives r w shows)
      ∙ ap (λ (l : List ℕ). g ++ l) (q.gives r (after_all r w p.acts) (p.shows r w shows));
}

pub went-one : (t : ℕ) (a : WorldEvent) (old new : Seen) (given : List ℕ) → ((r : Reader) → Done r a old new) → ((r : Reader) (w : WorldState) → Shows old w → MayCome r t w a)
    → ((w : WorldState) → Shows old w → given_by 0 w a ≡ given) → Went t old new (pieces_by a) given
went-one t a old new given done may gives = record {
  acts = a ∷ [];
  leads = λ r w shows. (may r w shows, tt);
  shows = λ r w shows. (done r w shows).shows;
  reads = append-nil (pieces_by a);
  gives = λ r w shows. append-nil (given_by 0 w a) ∙ gives w shows;
}

pub wrote-nil : (t : ℕ) (s : Seen) (held : Option (List ℕ)) → Wrote t s s [] held held
wrote-nil t s held = record { given = []; went = went-nil t s; written = Appends-nil held }

pub wrote-then : (t : ℕ) (a b c : Seen) (x y : List ℕ) (held mid held' : Option (List ℕ)) → Wrote t a b x held mid → Wrote t b c y mid held' → Wrote t a c (x ++ y) held held'
wrote-then t a b c x y held mid held' p q = record {
  given = p.given ++ q.given;
  went = went-then t a b c x y p.given q.given p.went q.went;
  written = Appends-trans held mid held' p.given q.given p.written q.written;
}

pub went-wrote : (t : ℕ) (a b c : Seen) (x y : List ℕ) (held held' : Option (List ℕ)) → Went t a b x [] → Wrote t b c y held held' → Wrote t a c (x ++ y) held held'
went-wrote t a b c x y held held' p q = record { given = q.given; went = went-then t a b c x y [] q.given p q.went; written = q.written }

pub wrote-went : (t : ℕ) (a b c : Seen) (x y : List ℕ) (held held' : Option (List ℕ)) → Wrote t a b x held held' → Went t b c y [] → Wrote t a c (x ++ y) held held'
wrote-went t a b c x y held held' p q = record {
  given = p.given ++ [];
  went = went-then t a b c x y p.given [] p.went q;
  written = subst (Appends held held') (sym (append-nil p.given)) p.written;
}

pub wrote-kept : (t : ℕ) (a b : Seen) (x : List ℕ) (held mid held' : Option (List ℕ)) → Wrote t a b x held mid → Keeps mid held' → Wrote t a b x held held'
wrote-kept t a b x held mid held' p kept = record { given = p.given; went = p.went; written = Appends-kept held mid held' p.given p.written kept }

-- where no further bytes arrive
pub wrote-still : (t : ℕ) (a b c : Seen) (x : List ℕ) (held mid held' : Option (List ℕ)) → Wrote t a b x held mid → Wrote t b c [] mid held' → Wrote t a c x held held'
wrote-still t a b c x held mid held' p q = subst (λ (l : List ℕ). Wrote t a c l held held') (append-nil x) (wrote-then t a b c x [] held mid held' p q)

pub somewhere-then : Reader → (t : ℕ) (a b : Seen) (x g : List ℕ) → Went t a b x g → IsSomewhere a → IsSomewhere b
somewhere-then r t a b x g p at = (after_all r at.0 p.acts, p.shows r at.0 at.1)
