-- What one instance, one message or one receipt more keeps.
use Rattle.std.proofs.Common.{◌≡◌, ℕ, ◌+◌, ◌<◌, ◌≤◌, true, false, ltb, List, [], ◌∷◌, ◌++◌, length, get_or, count_by, sym, refl, ap, ◌∙◌, subst, ⊎_elim, arith}
use Rattle.std.proofs.lemmas.List.{length_push, get_or_append_left, get_or_push, take_at, take-append-le, map_push}
use Rattle.std.proofs.lemmas.Bool.{ne_eqb, eq-eqb, cases_eq, and_parts, and_from, ltb-true, lt-ltb}
use Rattle.chart.specs.Words.{Text}
use Rattle.chart.specs.Lookup.{among}
use Rattle.chart.specs.Content.{Happening, sent, received, is_sending, is_received, Post, Content, joins, NamesApart, message_names, InstancesApart, MessagesApart, AllJoin, Numbered, AllSent, NoneTwice}
use Rattle.chart.specs.Drafting.{with_instance, with_message, with_receipt, times_received}
use Rattle.chart.proofs.Counting.{count_push_yes, count_push_no, sum_few}
use Rattle.chart.proofs.Numbering.{numbered_send, numbered_receipt, not_received, all_events}

pub same_content : (t : Text) {i i' : List Text} {m m' : List Post} {e e' : List Happening} → i ≡ i' → m ≡ m' → e ≡ e'
    → ◌≡◌ {A = Content} (record { title = t; instances = i; messages = m; events = e }) (record { title = t; instances = i'; messages = m'; events = e' })
same_content t {i} {i'} {m} {m'} {e} {e'} p q r =
    ap (λ x. record { title = t; instances = x; messages = m; events = e }) p
    ∙ ap (λ x. record { title = t; instances = i'; messages = x; events = e }) q
    ∙ ap (λ x. record { title = t; instances = i'; messages = m'; events = x }) r

pub apart_push : (ts : List Text) (t : Text) → NamesApart ts → among t ts ≡ false → NamesApart (ts ++ t ∷ [])
apart_push ts t apart new k l =
    ⊎_elim
    (λ (e : k ≡ length ts). let here = get_or_push ts t [] k (sym e) in let front = take_at ts (t ∷ []) k (sym e) in cc)
    (λ (e : k ≡ length ts → ⊥).
    let l' : k < length ts = omega (arith, length_push ts t) in
    let here = get_or_append_left ts (t ∷ []) [] k l' in
    let front = take-append-le k ts (t ∷ []) (omega arith) in
    let before = apart k l' in
    cc)
    (cases_eq k (length ts))

joins_more : (m n : ℕ) (p : Post) → m ≤ n → joins m p ≡ true → joins n p ≡ true
joins_more m n p l h =
    let a = and_parts (ltb p.sender m) _ h in
    let b = and_parts (ltb p.receiver m) _ a.1 in
    and_from _ _ (lt-ltb p.sender n (omega (arith, ltb-true p.sender m a.0))) (and_from _ _ (lt-ltb p.receiver n (omega (arith, ltb-true p.receiver m b.0))) b.1)

join_push : (n : ℕ) (ps : List Post) (p : Post) → ((m : ℕ) (d : Post) → m < length ps → joins n (get_or ps m d) ≡ true) → joins n p ≡ true → (m : ℕ) (d : Post) → m < length (ps ++ p ∷ []) → joins n (get_or (ps ++ p ∷ []) m d) ≡ true
join_push n ps p all new m d l =
    ⊎_elim
    (λ (e : m ≡ length ps). ap (joins n) (get_or_push ps p d m (sym e)) ∙ new)
    (λ (e : m ≡ length ps → ⊥). let l' : m < length ps = omega (arith, length_push ps p) in ap (joins n) (get_or_append_left ps (p ∷ []) d m l') ∙ all m d l')
    (cases_eq m (length ps))

-- what holds of a chart as far as it is drawn
pub record Growing (c : Content) : Type 0 where
  pub instances_apart : InstancesApart c
  pub messages_apart : MessagesApart c
  pub all_join : AllJoin c
  pub is_numbered : Numbered c
  pub all_sent : AllSent c
  pub none_twice : NoneTwice c

pub instance_grows : (c : Content) (t : Text) → Growing c → among t c.instances ≡ false → Growing (with_instance c t)
instance_grows c t g new =
    record {
      instances_apart = apart_push c.instances t g.instances_apart new;
      messages_apart = g.messages_apart;
      all_join = λ m d l. joins_more (length c.instances) _ (get_or c.messages m d) (omega (arith, length_push c.instances t)) (g.all_join m d l);
      is_numbered = g.is_numbered;
      all_sent = g.all_sent;
      none_twice = g.none_twice;
    }

module _ (c : Content) (t : Text) (s r : ℕ) (g : Growing c) (new : among t (message_names c) ≡ false) (good : joins (length c.instances) (record { name = t; sender = s; receiver = r }) ≡ true) where
  pub message_grows : Growing (with_message c t s r)
  message_grows =
      record {
        instances_apart = g.instances_apart;
        messages_apart = subst NamesApart (sym (map_push (λ (p : Post). p.name) c.messages (record { name = t; sender = s; receiver = r }))) (apart_push (message_names c) t g.messages_apart new);
        all_join = join_push (length c.instances) c.messages (record { name = t; sender = s; receiver = r }) g.all_join good;
        is_numbered = numbered_send c.events 0 (length c.messages) g.is_numbered (omega (arith, g.all_sent));
        all_sent = omega (arith, count_push_yes is_sending c.events (sent (length c.messages)) refl, length_push c.messages (record { name = t; sender = s; receiver = r }), g.all_sent);
        none_twice = λ m l.
            let same = count_push_no (is_received m) c.events (sent (length c.messages)) refl in
            ⊎_elim
            (λ (e : m ≡ length c.messages). omega (arith, same, not_received c.events 0 m g.is_numbered (omega (arith, g.all_sent))))
            (λ (e : m ≡ length c.messages → ⊥). omega (arith, same, g.none_twice m (omega (arith, length_push c.messages (record { name = t; sender = s; receiver = r })))))
            (cases_eq m (length c.messages));
      }

pub receipt_grows : (c : Content) (m : ℕ) → Growing c → m < length c.messages → times_received c m ≡ 0 → Growing (with_receipt c m)
receipt_grows c m g known new =
    record {
      instances_apart = g.instances_apart;
      messages_apart = g.messages_apart;
      all_join = g.all_join;
      is_numbered = numbered_receipt c.events 0 m g.is_numbered (omega (arith, g.all_sent));
      all_sent = count_push_no is_sending c.events (received m) refl ∙ g.all_sent;
      none_twice = λ n l.
          ⊎_elim
          (λ (e : m ≡ n). omega (arith, count_push_yes (is_received n) c.events (received m) (eq-eqb m n e), subst (λ k. times_received c k ≡ 0) e new))
          (λ (e : m ≡ n → ⊥). omega (arith, count_push_no (is_received n) c.events (received m) (ne_eqb m n e), g.none_twice n l))
          (cases_eq m n);
    }

-- each message has at most two events
pub few_events : (c : Content) → Growing c → length c.events ≤ length c.messages + length c.messages
few_events c g =
    omega (arith, all_events c.events 0 (length c.messages) g.is_numbered (omega (arith, g.all_sent)), sum_few (λ m. count_by (is_received m) c.events) (length c.messages) g.none_twice, g.all_sent)
