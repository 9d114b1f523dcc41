-- The number of a cause is that of the refusal.
use Rattle.std.proofs.Common.{◌≡◌, refl, sym, ap, ◌∙◌, ℕ, ◌+◌, ◌^◌, Bool, true, false, not, ◌&&◌, ◌||◌, List, [], ◌∷◌, ◌++◌, map, length, codes, Option, Some, None, bytes_eq, is_none, append-nil, append_assoc, Ok}
use Rattle.std.specs.List.{list_any}
use Rattle.std.proofs.lemmas.List.Folds.{list_any-append}
use Rattle.std.proofs.lemmas.Bool.{and_parts, or_parts}
use Rattle.toml.specs.Data.{Data, as_table, get}
use Rattle.config_format.specs.Document.{is_no_list, is_no_name, is_without_entry, lacks, text_at}
use Rattle.config_format.specs.Rows.{are_distinct_by}
use Rattle.participants.specs.ParticipantFile.{ParticipantFile}
use Rattle.participants.specs.Reading.{has_twice, has_unknown, is_bad_pair, is_bad_participant, is_known, is_same_named, named, named_pairs, names, participants, related_pairs, venue_name, first_fault as participants_fault, is_missing as is_missing_in_participants, has_bad_value as has_bad_value_in_participants, has_too_many as are_too_many_participants}
use Rattle.instruments.specs.Numbers.{is_no_number}
use Rattle.participants.specs.declared.fault.FileFault.TheVariants as in_participants
use Rattle.instruments.specs.Reading.{first_fault, has_bad_value, has_too_many, instruments, is_bad_instrument, is_missing, row_of, rows}
use Rattle.instruments.specs.Rows.{are_distinct, is_same_symbol}
use Rattle.instruments.specs.declared.fault.FileFault.TheVariants.{BadValue, Missing, TooMany, Twice}
use Rattle.instruments.specs.declared.instruments.Instrument.{Instrument}
use Rattle.file_diagnosis.specs.declared.cause.Cause.{Cause}
use Rattle.file_diagnosis.specs.declared.cause.Key.{Key}
use Rattle.file_diagnosis.specs.declared.cause.Key.TheVariants as key
use Rattle.file_diagnosis.specs.declared.cause.Look.{Look}
use Rattle.file_diagnosis.specs.declared.cause.Look.TheVariants as look
use Rattle.file_diagnosis.specs.declared.cause.Part.{Part}
use Rattle.file_diagnosis.specs.declared.cause.Part.TheVariants as part
use Rattle.file_diagnosis.specs.declared.cause.Wrong.{Wrong}
use Rattle.file_diagnosis.specs.declared.cause.Wrong.TheVariants as wrong
use Rattle.file_diagnosis.specs.Causes.{first_cause, first_from, first_wrong, key_word, or_later, unknown_in, when, whole, wrong_in, wrong_instrument, wrong_pair, wrong_participant}
use Rattle.file_diagnosis.proofs.Lists.{any_of}
use Rattle.file_diagnosis.specs.Participants as of_participants
use Rattle.file_diagnosis.specs.Instruments as of_instruments
use Rattle.file_diagnosis.specs.Numbers.{InstrumentsAgree, ParticipantsAgree, instruments_refusal, number_in, number_of, participants_refusal}

-- the number, if the test holds
abbrev numbered : Bool → ℕ → Option ℕ
numbered true n = Some n
numbered false n = None

abbrev or_number : Bool → ℕ → Option ℕ → Option ℕ
or_number true n later = Some n
or_number false n later = later

-- the number of a fault
abbrev wrong_number : Option Wrong → Option ℕ
wrong_number None = None
wrong_number (Some w) = Some (number_of w)

-- Faults of one number.

one_wrong : (n : ℕ) (t : Bool) (w : Wrong) → number_of w ≡ n → wrong_number (first_wrong ((t, w) ∷ [])) ≡ numbered t n
one_wrong n true w is = ap Some is
one_wrong n false w is = refl

more_wrong : (n : ℕ) (t : Bool) (w : Wrong) (ts : List (Bool × Wrong)) (b : Bool) → number_of w ≡ n → wrong_number (first_wrong ts) ≡ numbered b n → wrong_number (first_wrong ((t, w) ∷ ts)) ≡ numbered (t || b) n
more_wrong n true w ts b is later = ap Some is
more_wrong n false w ts b is later = later

one_cause : (n : ℕ) (b : Bool) (c : Option Cause) → number_in c ≡ numbered b n → number_in (first_cause (c ∷ [])) ≡ numbered b n
one_cause n b None h = h
one_cause n b (Some c) h = h

more_causes : (n : ℕ) (b bs : Bool) (c : Option Cause) (cs : List (Option Cause)) → number_in c ≡ numbered b n → number_in (first_cause cs) ≡ numbered bs n → number_in (first_cause (c ∷ cs)) ≡ numbered (b || bs) n
more_causes n true bs None cs h later = absurd (cc)
more_causes n false bs None cs h later = later
more_causes n true bs (Some c) cs h later = h
more_causes n false bs (Some c) cs h later = absurd (cc)

as_whole : (b : Bool) (p : Part) (w : Wrong) → number_in (when b (whole p w)) ≡ numbered b (number_of w)
as_whole true p w = refl
as_whole false p w = refl

-- causes of one number before others
before_others : (n : ℕ) (b : Bool) (c : Option Cause) (cs : List (Option Cause)) (later : Option ℕ) → number_in c ≡ numbered b n → number_in (first_cause cs) ≡ later → number_in (first_cause (c ∷ cs)) ≡ or_number b n later
before_others n true None cs later h rest = absurd (cc)
before_others n false None cs later h rest = rest
before_others n true (Some c) cs later h rest = h
before_others n false (Some c) cs later h rest = absurd (cc)

-- The first entry of a list with a fault.

here_or_later : (p : Part) (k n : ℕ) (w : Option Wrong) (later : Option Cause) (b bs : Bool) → wrong_number w ≡ numbered b n → number_in later ≡ numbered bs n → number_in (or_later p k w later) ≡ numbered (b || bs) n
here_or_later p k n None later true bs h rest = absurd (cc)
here_or_later p k n None later false bs h rest = rest
here_or_later p k n (Some w) later true bs h rest = h
here_or_later p k n (Some w) later false bs h rest = absurd (cc)

by_entry : (file : Data) (p : Part) (l : Look) (n : ℕ) (test : Data → Bool) → ((before : List Data) (e : Data) → wrong_number (wrong_in file l before e) ≡ numbered (test e) n)
    → (before es : List Data) → number_in (first_from file p l before es) ≡ numbered (list_any test es) n
by_entry file p l n test is before [] = refl
by_entry file p l n test is before (e ∷ es) =
    here_or_later p (length before + 1) n (wrong_in file l before e) (first_from file p l (before ++ (e ∷ [])) es) (test e) (list_any test es) (is before e) (by_entry file p l n test is (before ++ (e ∷ [])) es)

lacking : (file : Data) (p : Part) (k : Key) (es : List Data) → number_in (first_from file p (look.Lack k) [] es) ≡ numbered (list_any (lacks (key_word k)) es) 2
lacking file p k es = by_entry file p (look.Lack k) 2 (lacks (key_word k)) (λ before e. one_wrong 2 (lacks (key_word k) e) (wrong.Lacks k) refl) [] es

bad_participant : (e : Data) → wrong_number (wrong_participant e) ≡ numbered (is_bad_participant e) 6
bad_participant e =
    more_wrong 6 (is_none (as_table e)) wrong.NoTable ((is_no_name (get (codes "name") e), wrong.NoName key.Name) ∷ []) (is_no_name (get (codes "name") e)) refl (one_wrong 6 (is_no_name (get (codes "name") e)) (wrong.NoName key.Name) refl)

bad_pair : (e : Data) → wrong_number (wrong_pair e) ≡ numbered (is_bad_pair e) 6
bad_pair e =
    let a = is_no_name (get (codes "a") e) in
    let b = is_no_name (get (codes "b") e) in
    let same = bytes_eq (named e).0 (named e).1 in
    let last : List (Bool × Wrong) = (same, wrong.Same) ∷ [] in
    let from_b : List (Bool × Wrong) = (b, wrong.NoName key.B) ∷ last in
    let from_a : List (Bool × Wrong) = (a, wrong.NoName key.A) ∷ from_b in
    more_wrong 6 (is_none (as_table e)) wrong.NoTable from_a (a || (b || same)) refl (more_wrong 6 a (wrong.NoName key.A) from_b (b || same) refl (more_wrong 6 b (wrong.NoName key.B) last same refl (one_wrong 6 same wrong.Same refl)))

bad_instrument : (e : Data) → wrong_number (wrong_instrument e) ≡ numbered (is_bad_instrument e) 6
bad_instrument e =
    let symbol = is_no_name (get (codes "symbol") e) in
    let tick = is_no_number 1 (10 ^ 12) (get (codes "tick") e) in
    let least = is_no_number 1 (10 ^ 15) (get (codes "least") e) in
    let life = is_no_number 1 86400 (get (codes "rfq_life") e) in
    let delay = is_no_number 1000 3600000 (get (codes "delay_ms") e) in
    let last : List (Bool × Wrong) = (delay, wrong.NoNumber key.Delay) ∷ [] in
    let from_life : List (Bool × Wrong) = (life, wrong.NoNumber key.RequestLife) ∷ last in
    let from_least : List (Bool × Wrong) = (least, wrong.NoNumber key.Least) ∷ from_life in
    let from_tick : List (Bool × Wrong) = (tick, wrong.NoNumber key.Tick) ∷ from_least in
    let from_symbol : List (Bool × Wrong) = (symbol, wrong.NoName key.Symbol) ∷ from_tick in
    more_wrong 6 (is_none (as_table e)) wrong.NoTable from_symbol (symbol || (tick || (least || (life || delay)))) refl
    (more_wrong 6 symbol (wrong.NoName key.Symbol) from_tick (tick || (least || (life || delay))) refl
    (more_wrong 6 tick (wrong.NoNumber key.Tick) from_least (least || (life || delay)) refl
    (more_wrong 6 least (wrong.NoNumber key.Least) from_life (life || delay) refl
    (more_wrong 6 life (wrong.NoNumber key.RequestLife) last delay refl (one_wrong 6 delay (wrong.NoNumber key.Delay) refl)))))

bad_participants : (file : Data) (p : Part) (es : List Data) → number_in (first_from file p look.BadParticipant [] es) ≡ numbered (list_any is_bad_participant es) 6
bad_participants file p es = by_entry file p look.BadParticipant 6 is_bad_participant (λ before e. bad_participant e) [] es

bad_pairs : (file : Data) (p : Part) (es : List Data) → number_in (first_from file p look.BadPair [] es) ≡ numbered (list_any is_bad_pair es) 6
bad_pairs file p es = by_entry file p look.BadPair 6 is_bad_pair (λ before e. bad_pair e) [] es

bad_instruments : (file : Data) (p : Part) (es : List Data) → number_in (first_from file p look.BadInstrument [] es) ≡ numbered (list_any is_bad_instrument es) 6
bad_instruments file p es = by_entry file p look.BadInstrument 6 is_bad_instrument (λ before e. bad_instrument e) [] es

-- Repeats: the first entry that stands before, against the test that all are distinct.

or_true : (b : Bool) → (b || true) ≡ true
or_true true = refl
or_true false = refl

and_false : (b : Bool) → (b && false) ≡ false
and_false true = refl
and_false false = refl

or_false : (b : Bool) → (b || (false || false)) ≡ b
or_false true = refl
or_false false = refl

-- a member like one before it
repeated : (same : Data → Data → Bool) (xs : List Data) (e : Data) (es : List Data) → list_any (λ d. same d e) xs ≡ true → are_distinct_by same (xs ++ (e ∷ es)) ≡ false
repeated same [] e es h = absurd (cc)
repeated same (x ∷ xs) e es h = by (same x e) refl (λ later. repeated same xs e es later)
  where
    by : (b : Bool) → same x e ≡ b → (list_any (λ d. same d e) xs ≡ true → are_distinct_by same (xs ++ (e ∷ es)) ≡ false) → are_distinct_by same (x ∷ (xs ++ (e ∷ es))) ≡ false
    by true is rest = ap (λ b. not b && are_distinct_by same (xs ++ (e ∷ es))) (list_any-append (same x) xs (e ∷ es) ∙ (ap (λ b. list_any (same x) xs || (b || list_any (same x) es)) is ∙ or_true (list_any (same x) xs)))
    by false is rest =
        ap (λ b. not (list_any (same x) (xs ++ (e ∷ es))) && b) (rest (sym (ap (λ b. b || list_any (λ d. same d e) xs) is) ∙ h)) ∙ and_false (not (list_any (same x) (xs ++ (e ∷ es))))

-- a member unlike those before it
kept : (same : Data → Data → Bool) (xs : List Data) (e : Data) → are_distinct_by same xs ≡ true → list_any (λ d. same d e) xs ≡ false → are_distinct_by same (xs ++ (e ∷ [])) ≡ true
kept same [] e once new = refl
kept same (x ∷ xs) e once new =
    let here = and_parts (not (list_any (same x) xs)) (are_distinct_by same xs) once in
    let apart = or_parts (same x e) (list_any (λ d. same d e) xs) new in
    ap (λ b. not b && are_distinct_by same (xs ++ (e ∷ []))) (list_any-append (same x) xs (e ∷ []) ∙ ap (λ b. list_any (same x) xs || (b || false)) apart.0 ∙ or_false (list_any (same x) xs))
    ∙ (ap (λ b. b && are_distinct_by same (xs ++ (e ∷ []))) here.0 ∙ kept same xs e here.1 apart.1)

repeats : (file : Data) (p : Part) (l : Look) (same : Data → Data → Bool) → ((before : List Data) (e : Data) → wrong_in file l before e ≡ first_wrong ((list_any (λ d. same d e) before, wrong.Twice) ∷ []))
    → (before es : List Data) → are_distinct_by same before ≡ true → number_in (first_from file p l before es) ≡ numbered (not (are_distinct_by same (before ++ es))) 3
repeats file p l same is before [] once = sym (ap (λ b. numbered (not b) 3) (ap (are_distinct_by same) (append-nil before) ∙ once))
repeats file p l same is before (e ∷ es) once = by (list_any (λ d. same d e) before) refl (λ new. repeats file p l same is (before ++ (e ∷ [])) es (kept same before e once new))
  where
    by : (b : Bool) → list_any (λ d. same d e) before ≡ b → (list_any (λ d. same d e) before ≡ false → number_in (first_from file p l (before ++ (e ∷ [])) es) ≡ numbered (not (are_distinct_by same ((before ++ (e ∷ [])) ++ es))) 3)
        → number_in (or_later p (length before + 1) (wrong_in file l before e) (first_from file p l (before ++ (e ∷ [])) es)) ≡ numbered (not (are_distinct_by same (before ++ (e ∷ es)))) 3
    by true again rest =
        ap (λ w. number_in (or_later p (length before + 1) w (first_from file p l (before ++ (e ∷ [])) es))) (is before e ∙ ap (λ b. first_wrong ((b, wrong.Twice) ∷ [])) again) ∙ sym (ap (λ b. numbered (not b) 3) (repeated same before e es again))
    by false new rest =
        ap (λ w. number_in (or_later p (length before + 1) w (first_from file p l (before ++ (e ∷ [])) es))) (is before e ∙ ap (λ b. first_wrong ((b, wrong.Twice) ∷ [])) new)
        ∙ (rest new ∙ ap (λ ds. numbered (not (are_distinct_by same ds)) 3) (append_assoc before (e ∷ []) es))

distinct_of : {Y : Type 0} (same : Y → Y → Bool) (f : Data → Y) (xs : List Data) → are_distinct_by same (map f xs) ≡ are_distinct_by (λ d e. same (f d) (f e)) xs
distinct_of same f [] = refl
distinct_of same f (x ∷ xs) = ap (λ b. not b && are_distinct_by same (map f xs)) (any_of (same (f x)) f xs) ∙ ap (λ b. not (list_any (λ e. same (f x) (f e)) xs) && b) (distinct_of same f xs)

-- The causes of a participant file, by their numbers.

missing_participants : (file : Data) → number_in (of_participants.missing_cause file) ≡ numbered (is_missing_in_participants file) 2
missing_participants file =
    more_causes 2 _ _ _ _ (as_whole (is_none (get (codes "venue") file)) part.Venue wrong.Absent)
    (more_causes 2 _ _ _ _ (as_whole (is_none (get (codes "participant") file)) part.Participants wrong.Absent)
    (more_causes 2 _ _ _ _ (as_whole (is_without_entry (get (codes "participant") file)) part.Participants wrong.NoEntry)
    (more_causes 2 _ _ _ _ (lacking file part.Participants key.Name (participants file))
    (more_causes 2 _ _ _ _ (as_whole (is_without_entry (get (codes "related") file)) part.Related wrong.NoEntry)
    (more_causes 2 _ _ _ _ (lacking file part.Related key.A (related_pairs file)) (one_cause 2 _ _ (lacking file part.Related key.B (related_pairs file))))))))

values_of_participants : (file : Data) → number_in (of_participants.value_cause file) ≡ numbered (has_bad_value_in_participants file) 6
values_of_participants file =
    more_causes 6 _ _ _ _ (as_whole (is_no_name (get (codes "venue") file)) part.Venue wrong.NoVenue)
    (more_causes 6 _ _ _ _ (as_whole (is_no_list (get (codes "participant") file)) part.Participants wrong.NoList)
    (more_causes 6 _ _ _ _ (bad_participants file part.Participants (participants file))
    (more_causes 6 _ _ _ _ (as_whole (is_no_list (get (codes "related") file)) part.Related wrong.NoList) (one_cause 6 _ _ (bad_pairs file part.Related (related_pairs file))))))

boolean : (a b c : Bool) → (a || (not b || not c)) ≡ (not (not a && b) || not c)
boolean true b c = refl
boolean false b c = refl

repeats_of_participants : (file : Data) → number_in (of_participants.repeat_cause file) ≡ numbered (has_twice (venue_name file) (names file) (named_pairs file)) 3
repeats_of_participants file =
    let v = list_any (λ e. bytes_eq (venue_name file) (text_at (codes "name") e)) (participants file) in
    let d = are_distinct_by (λ x y. bytes_eq (text_at (codes "name") x) (text_at (codes "name") y)) (participants file) in
    let q = are_distinct_by (λ x y. is_same_named (named x) (named y)) (related_pairs file) in
    let venue : number_in (first_from file part.Participants look.VenueName [] (participants file)) ≡ numbered v 3
    = by_entry file part.Participants look.VenueName 3 (λ e. bytes_eq (venue_name file) (text_at (codes "name") e)) (λ before e. one_wrong 3 (bytes_eq (venue_name file) (text_at (codes "name") e)) wrong.OfVenue refl) [] (participants file) in
    let again : number_in (first_from file part.Participants (look.Repeat key.Name) [] (participants file)) ≡ numbered (not d) 3
    = repeats file part.Participants (look.Repeat key.Name) (λ x y. bytes_eq (text_at (codes "name") x) (text_at (codes "name") y)) (λ before e. refl) [] (participants file) refl in
    let pairs : number_in (first_from file part.Related look.RepeatedPair [] (related_pairs file)) ≡ numbered (not q) 3
    = repeats file part.Related look.RepeatedPair (λ x y. is_same_named (named x) (named y)) (λ before e. refl) [] (related_pairs file) refl in
    let joined : (v || (not d || not q)) ≡ has_twice (venue_name file) (names file) (named_pairs file) =
    boolean v d q
    ∙ (ap (λ b. not (not b && d) || not q) (sym (any_of (bytes_eq (venue_name file)) (text_at (codes "name")) (participants file)))
    ∙ (ap (λ b. not (not (list_any (bytes_eq (venue_name file)) (names file)) && b) || not q) (sym (distinct_of bytes_eq (text_at (codes "name")) (participants file)))
    ∙ ap (λ b. not (not (list_any (bytes_eq (venue_name file)) (names file)) && are_distinct_by bytes_eq (names file)) || not b) (sym (distinct_of is_same_named named (related_pairs file))))) in
    more_causes 3 _ _ _ _ venue (more_causes 3 _ _ _ _ again (one_cause 3 _ _ pairs)) ∙ ap (λ b. numbered b 3) joined

unknown_pair : (file : Data) (e : Data) → wrong_number (unknown_in file e) ≡ numbered (has_unknown (names file) (named e)) 4
unknown_pair file e =
    let a = is_known (names file) (named e).0 in
    let b = is_known (names file) (named e).1 in
    let last : List (Bool × Wrong) = (not b, wrong.Unknown key.B) ∷ [] in
    more_wrong 4 (not a) (wrong.Unknown key.A) last (not b) refl (one_wrong 4 (not b) (wrong.Unknown key.B) refl) ∙ ap (λ x. numbered x 4) (either a b)
  where
    either : (x y : Bool) → (not x || not y) ≡ not (x && y)
    either true y = refl
    either false y = refl

unknown_of_participants : (file : Data) → number_in (of_participants.unknown_cause file) ≡ numbered (list_any (has_unknown (names file)) (named_pairs file)) 4
unknown_of_participants file =
    by_entry file part.Related look.UnknownName 4 (λ e. has_unknown (names file) (named e)) (λ before e. unknown_pair file e) [] (related_pairs file) ∙ ap (λ b. numbered b 4) (sym (any_of (has_unknown (names file)) named (related_pairs file)))

pub participants_agree : ParticipantsAgree
participants_agree file =
    before_others 2 _ _ _ _ (missing_participants file)
    (before_others 6 _ _ _ _ (values_of_participants file)
    (before_others 5 _ _ _ _ (as_whole (are_too_many_participants file) part.Participants wrong.TooMany)
    (before_others 3 _ _ _ _ (repeats_of_participants file) (one_cause 4 _ _ (unknown_of_participants file)))))
    ∙ same (is_missing_in_participants file) (has_bad_value_in_participants file) (are_too_many_participants file) (has_twice (venue_name file) (names file) (named_pairs file)) (list_any (has_unknown (names file)) (named_pairs file)) _
  where
    same : (m v c t u : Bool) (found : ParticipantFile)
        → or_number m 2 (or_number v 6 (or_number c 5 (or_number t 3 (numbered u 4))))
        ≡ participants_refusal (participants_fault ((m, in_participants.Missing) ∷ (v, in_participants.BadValue) ∷ (c, in_participants.TooMany) ∷ []) (participants_fault ((t, in_participants.Twice) ∷ (u, in_participants.UnknownName) ∷ []) (Ok found)))
    same true v c t u found = refl
    same false true c t u found = refl
    same false false true t u found = refl
    same false false false true u found = refl
    same false false false false true found = refl
    same false false false false false found = refl

-- The causes of an instrument file, by their numbers.

missing_instruments : (file : Data) → number_in (of_instruments.missing_cause file) ≡ numbered (is_missing file) 2
missing_instruments file =
    more_causes 2 _ _ _ _ (as_whole (is_none (get (codes "instrument") file)) part.Instruments wrong.Absent)
    (more_causes 2 _ _ _ _ (as_whole (is_without_entry (get (codes "instrument") file)) part.Instruments wrong.NoEntry)
    (more_causes 2 _ _ _ _ (lacking file part.Instruments key.Symbol (instruments file))
    (more_causes 2 _ _ _ _ (lacking file part.Instruments key.Tick (instruments file))
    (more_causes 2 _ _ _ _ (lacking file part.Instruments key.Least (instruments file)) (one_cause 2 _ _ (lacking file part.Instruments key.RequestLife (instruments file)))))))

values_of_instruments : (file : Data) → number_in (of_instruments.value_cause file) ≡ numbered (has_bad_value file) 6
values_of_instruments file = more_causes 6 _ _ _ _ (as_whole (is_no_list (get (codes "instrument") file)) part.Instruments wrong.NoList) (one_cause 6 _ _ (bad_instruments file part.Instruments (instruments file)))

repeats_of_instruments : (file : Data) → number_in (of_instruments.repeat_cause file) ≡ numbered (not (are_distinct (rows file))) 3
repeats_of_instruments file =
    repeats file part.Instruments (look.Repeat key.Symbol) (λ x y. bytes_eq (text_at (codes "symbol") x) (text_at (codes "symbol") y)) (λ before e. refl) [] (instruments file) refl
    ∙ ap (λ b. numbered (not b) 3) (sym (distinct_of is_same_symbol row_of (instruments file)))

pub instruments_agree : InstrumentsAgree
instruments_agree file =
    before_others 2 _ _ _ _ (missing_instruments file)
    (before_others 6 _ _ _ _ (values_of_instruments file)
    (before_others 5 _ _ _ _ (as_whole (has_too_many file) part.Instruments wrong.TooMany) (one_cause 3 _ _ (repeats_of_instruments file))))
    ∙ same (is_missing file) (has_bad_value file) (has_too_many file) (not (are_distinct (rows file))) (rows file)
  where
    same : (m v c t : Bool) (found : List Instrument)
        → or_number m 2 (or_number v 6 (or_number c 5 (numbered t 3)))
        ≡ instruments_refusal (first_fault ((m, Missing) ∷ (v, BadValue) ∷ (c, TooMany) ∷ []) (first_fault ((t, Twice) ∷ []) (Ok found)))
    same true v c t found = refl
    same false true c t found = refl
    same false false true t found = refl
    same false false false true found = refl
    same false false false false found = refl
