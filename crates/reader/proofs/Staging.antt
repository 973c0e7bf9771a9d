-- A draft that was read is well formed as far as it goes, and its tokens are those that were read.
use Rattle.std.proofs.Common.{◌≡◌, ℕ, zero, suc, ◌<◌, ◌≤◌, true, false, ltb, List, [], ◌∷◌, ◌++◌, length, get_or, take, Some, codes, sym, refl, ap, ◌∙◌, subst, arith}
use Rattle.std.specs.List.{flat_map, AllByRecursion as All}
use Rattle.std.proofs.ByRecursion.{All-push}
use Rattle.std.proofs.lemmas.List.{append_assoc, append-nil, length_push, length-map, get_or_append_left, get_or_push, get_or-map, map_push}
use Rattle.std.proofs.lemmas.Bool.{ltb-false, ltb-true}
use Rattle.chart.specs.Words.{Text, is_name}
use Rattle.chart.specs.Lookup.{seek, among}
use Rattle.chart.specs.Content.{Content, Happening, sent, received, Post, nobody, message_names, sender_of, receiver_of, WellFormed}
use Rattle.chart.specs.Drafting.{begun, with_message, times_received, all_received}
use Rattle.chart.proofs.Additions.{Growing, instance_grows, message_grows, receipt_grows}
use Rattle.chart.proofs.Judging.{joined as joined-ends, each_below}
use Rattle.chart.proofs.Seeking.{seek_inside, seek_is}
use Rattle.reader.specs.Meaning.{Sign, written, semicolon_sign, comma_sign, colon_sign, further_names, line_of}
use Rattle.reader.proofs.Accepting.{Adds, sends, receives}
use Rattle.reader.proofs.Moving.{Part, listing, drawing, Moves, lists, draws, Many, done, again}

abbrev Named : List Text → Type 0
Named ts = All (λ t. is_name t ≡ true) ts

pub record Stage (c : Content) : Type 0 where
  pub titled : is_name c.title ≡ true
  pub some_instance : 0 < length c.instances
  pub few_instances : length c.instances ≤ 16
  pub few_messages : length c.messages ≤ 64
  pub instance_names : Named c.instances
  pub names_of_messages : Named (message_names c)
  pub growing : Growing c

pub begun_stage : (title first : Text) → is_name title ≡ true → is_name first ≡ true → Stage (begun title first)
begun_stage title first t f =
    record {
      titled = t;
      some_instance = omega arith;
      few_instances = omega arith;
      few_messages = omega arith;
      instance_names = (f, tt);
      names_of_messages = tt;
      growing = record {
        instances_apart = λ k l. alone k l;
        messages_apart = λ k l. absurd (omega arith);
        all_join = λ m d l. absurd (omega arith);
        is_numbered = refl;
        all_sent = refl;
        none_twice = λ m l. absurd (omega arith);
      };
    }
  where
    alone : (k : ℕ) → k < 1 → among (get_or (first ∷ []) k []) (take k (first ∷ [])) ≡ false
    alone zero l = refl
    alone (suc k) l = absurd (omega arith)

adds_stage : {c d : Content} {i : ℕ} {ts : List Sign} → Adds c i ts d → i < length c.instances → Stage c → Stage d
adds_stage {c} {d} {i} (sends {u} {v} {r} name other new few found apart) inside s =
    record {
      titled = s.titled;
      some_instance = s.some_instance;
      few_instances = s.few_instances;
      few_messages = omega (arith, length_push c.messages (record { name = u; sender = i; receiver = r }));
      instance_names = s.instance_names;
      names_of_messages = subst Named (sym (map_push (λ (p : Post). p.name) c.messages (record { name = u; sender = i; receiver = r }))) (All-push (λ t. is_name t ≡ true) (message_names c) u s.names_of_messages name);
      growing = message_grows c u i r s.growing new (joined-ends (length c.instances) (record { name = u; sender = i; receiver = r }) inside (seek_inside (λ x. x) v c.instances r found) apart);
    }
adds_stage {c} {d} {i} (receives {u} {v} {m} name other found new at from') inside s =
    record {
      titled = s.titled;
      some_instance = s.some_instance;
      few_instances = s.few_instances;
      few_messages = s.few_messages;
      instance_names = s.instance_names;
      names_of_messages = s.names_of_messages;
      growing = receipt_grows c m s.growing (omega (arith, seek_inside (λ x. x) u (message_names c) m found, length-map c.messages (λ (p : Post). p.name))) (omega (arith, ltb-false 0 (times_received c m) new));
    }

moves_stage : {c d : Content} {part : Part} {ts : List Sign} → Moves c part ts d → Stage c → Stage d
moves_stage {c} (lists {t} name few new) s =
    record {
      titled = s.titled;
      some_instance = omega (arith, length_push c.instances t);
      few_instances = omega (arith, length_push c.instances t);
      few_messages = s.few_messages;
      instance_names = All-push (λ t. is_name t ≡ true) c.instances t s.instance_names name;
      names_of_messages = s.names_of_messages;
      growing = instance_grows c t s.growing new;
    }
moves_stage {c} (draws {t} {i} name found adds) s = adds_stage adds (seek_inside (λ x. x) t c.instances i found) s

pub many_stage : {part : Part} {c d : Content} {ts : List Sign} → Many part c ts d → Stage c → Stage d
many_stage done s = s
many_stage (again m rest) s = many_stage rest (moves_stage m s)

-- a stage in which all is received
pub all_formed : (c : Content) → Stage c → all_received c ≡ true → WellFormed c
all_formed c s all =
    record {
      titled = s.titled;
      some_instance = s.some_instance;
      few_instances = s.few_instances;
      few_messages = s.few_messages;
      instance_names = s.instance_names;
      names_of_messages = s.names_of_messages;
      instances_apart = s.growing.instances_apart;
      messages_apart = s.growing.messages_apart;
      all_join = s.growing.all_join;
      is_numbered = s.growing.is_numbered;
      all_sent = s.growing.all_sent;
      received_once = λ m l. omega (arith, ltb-true 0 _ (each_below (λ n. ltb 0 (times_received c n)) (length c.messages) m all l), s.growing.none_twice m l);
    }

-- the list of instances: the names that were added, and their tokens
pub instances_read : {c d : Content} {ts : List Sign} → Many listing c ts d
    → (xs : List Text) × (d ≡ record { title = c.title; instances = c.instances ++ xs; messages = c.messages; events = c.events }) × (ts ≡ further_names xs)
instances_read {c} done = ([], ap (λ l. record { title = c.title; instances = l; messages = c.messages; events = c.events }) (sym (append-nil c.instances)), refl)
instances_read {c} (again (lists {t} name few new) rest) =
    let r = instances_read rest in (
      t ∷ r.0,
      r.1 ∙ ap (λ l. record { title = c.title; instances = l; messages = c.messages; events = c.events }) (append_assoc c.instances (t ∷ []) r.0),
      ap (λ l. comma_sign ∷ written t ∷ l) r.2,
    )

-- what the lines added, and their tokens
pub record Grown (c d : Content) (ts : List Sign) : Type 0 where
  pub posts : List Post
  pub happenings : List Happening
  pub same_title : d.title ≡ c.title
  pub same_instances : d.instances ≡ c.instances
  pub more_messages : d.messages ≡ c.messages ++ posts
  pub more_events : d.events ≡ c.events ++ happenings
  pub spelled : ts ≡ flat_map (line_of d) happenings

-- a message of the draft is still the same in the end
kept_message : (c d : Content) (posts : List Post) → d.messages ≡ c.messages ++ posts → (m : ℕ) → m < length c.messages → get_or d.messages m nobody ≡ get_or c.messages m nobody
kept_message c d posts e m l = ap (λ ms. get_or ms m nobody) e ∙ get_or_append_left c.messages posts nobody m l

abbrev line_by : Text → Text → Text → Text → Text → List Sign
line_by a verb b preposition v = written a ∷ colon_sign ∷ written verb ∷ written b ∷ written preposition ∷ written v ∷ semicolon_sign ∷ []

same_line : (verb preposition : Text) {a a' b b' v v' : Text} → a ≡ a' → b ≡ b' → v ≡ v' → line_by a verb b preposition v ≡ line_by a' verb b' preposition v'
same_line verb preposition {a} {a'} {b} {b'} {v} {v'} p q r =
    ap (λ x. line_by x verb b preposition v) p ∙ ap (λ x. line_by a' verb x preposition v) q ∙ ap (λ x. line_by a' verb b' preposition x) r

same_so : {c d : Content} {i : ℕ} {ts : List Sign} → Adds c i ts d → d.instances ≡ c.instances
same_so (sends a b e f g h) = refl
same_so (receives a b e f g h) = refl

-- the event that a line added, and its tokens as the final chart has them
line_read : (d : Content) {c c' : Content} {i : ℕ} {ts : List Sign} (t : Text) (posts : List Post) → seek (λ x. x) t c.instances ≡ Some i → Adds c i ts c' → d.instances ≡ c.instances → d.messages ≡ c'.messages ++ posts
    → (e : Happening) × (more : List Post) × (c'.title ≡ c.title) × (c'.instances ≡ c.instances) × (c'.messages ≡ c.messages ++ more) × (c'.events ≡ c.events ++ e ∷ []) × (written t ∷ ts ≡ line_of d e)
line_read d {c} {c'} {i} t posts owner (sends {u} {v} {r} name other new few found apart) instances messages =
    let k : ℕ = length c.messages in
    let p : Post = record { name = u; sender = i; receiver = r } in
    let here : get_or d.messages k nobody ≡ p = kept_message (with_message c u i r) d posts messages k (omega (arith, length_push c.messages p)) ∙ get_or_push c.messages p nobody k refl in (
      sent k,
      p ∷ [],
      refl,
      refl,
      refl,
      refl,
      same_line (codes "out") (codes "to")
          (sym (ap (λ q. get_or d.instances q.sender []) here ∙ ap (λ l. get_or l i []) instances ∙ seek_is t c.instances i owner))
          (sym (ap (λ q. q.name) here))
          (sym (ap (λ q. get_or d.instances q.receiver []) here ∙ ap (λ l. get_or l r []) instances ∙ seek_is v c.instances r found)),
    )
line_read d {c} {c'} {i} t posts owner (receives {u} {v} {m} name other found new at from') instances messages =
    let low : m < length c.messages = omega (arith, seek_inside (λ x. x) u (message_names c) m found, length-map c.messages (λ (q : Post). q.name)) in
    let here : get_or d.messages m nobody ≡ get_or c.messages m nobody = kept_message c d posts messages m low in (
      received m,
      [],
      refl,
      refl,
      sym (append-nil c.messages),
      refl,
      same_line (codes "in") (codes "from")
          (sym (ap (λ q. get_or d.instances q.receiver []) here ∙ ap (λ l. get_or l (receiver_of c m) []) instances ∙ ap (λ k. get_or c.instances k []) at ∙ seek_is t c.instances i owner))
          (sym (ap (λ q. q.name) here ∙ sym (get_or-map (λ (q : Post). q.name) c.messages m nobody [] low) ∙ seek_is u (message_names c) m found))
          (sym (ap (λ q. get_or d.instances q.sender []) here ∙ ap (λ l. get_or l (sender_of c m) []) instances ∙ seek_is v c.instances (sender_of c m) from')),
    )

pub lines_read : {c d : Content} {ts : List Sign} → Many drawing c ts d → Grown c d ts
lines_read {c} done =
    record { posts = []; happenings = []; same_title = refl; same_instances = refl; more_messages = sym (append-nil c.messages); more_events = sym (append-nil c.events); spelled = refl }
lines_read {c} {d} (again {d = c'} {us = us} (draws {t} {i} {ts} name found adds) rest) =
    let g = lines_read rest in
    let l = line_read d t g.posts found adds (g.same_instances ∙ same_so adds) g.more_messages in
    record {
      posts = l.1 ++ g.posts;
      happenings = l.0 ∷ g.happenings;
      same_title = g.same_title ∙ l.2;
      same_instances = g.same_instances ∙ l.3;
      more_messages = g.more_messages ∙ ap (λ x. x ++ g.posts) l.4 ∙ append_assoc c.messages l.1 g.posts;
      more_events = g.more_events ∙ ap (λ x. x ++ g.happenings) l.5 ∙ append_assoc c.events (l.0 ∷ []) g.happenings;
      spelled = ap (λ x. x ++ us) l.6 ∙ ap (λ x. line_of d l.0 ++ x) g.spelled;
    }
