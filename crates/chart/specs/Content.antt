-- What a chart says, free of how it is stored.
use Rattle.std.specs.Prelude.{◌≡◌, ℕ, suc, ◌<◌, ◌≤◌, Bool, true, false, not, ◌&&◌, List, [], ◌∷◌, map, length, get_or, take, count_by, ◌==◌, nat_lt, slice_index_or}
use Rattle.std.specs.List.{prefix_len, AllByRecursion}
use Rattle.chart.specs.Words.{Text, is_name}
use Rattle.chart.specs.Lookup.{among}

-- an event: message m leaves its sender, or arrives at its receiver
pub data Happening : Type 0 where
  sent : ℕ → Happening
  received : ℕ → Happening

abbrev pub message_of : Happening → ℕ
message_of (sent m) = m
message_of (received m) = m

-- a message: its name, and the instances that send and receive it
pub record Post : Type 0 where
  pub name : Text
  pub sender : ℕ
  pub receiver : ℕ

-- events by their lines, messages by their out lines, instances by the inst list; a blank chart has an empty title
pub record Content : Type 0 where
  pub title : Text
  pub instances : List Text
  pub messages : List Post
  pub events : List Happening

abbrev pub nothing : Content
nothing = record { title = []; instances = []; messages = []; events = [] }

abbrev pub nobody : Post
nobody = record { name = []; sender = 0; receiver = 0 }

abbrev pub sender_of : Content → ℕ → ℕ
sender_of c m = (get_or c.messages m nobody).sender

abbrev pub receiver_of : Content → ℕ → ℕ
receiver_of c m = (get_or c.messages m nobody).receiver

abbrev pub is_sending : Happening → Bool
is_sending (sent m) = true
is_sending (received m) = false

abbrev pub is_sent : ℕ → Happening → Bool
is_sent m (sent n) = n == m
is_sent m (received n) = false

abbrev pub is_received : ℕ → Happening → Bool
is_received m (sent n) = false
is_received m (received n) = n == m

-- the next send carries the number k, the one after it k + 1, and so on; what is received was sent above
abbrev pub numbered : ℕ → List Happening → Bool
numbered k [] = true
numbered k (sent m ∷ es) = m == k && numbered (suc k) es
numbered k (received m ∷ es) = nat_lt m k && numbered k es

-- the numbers of a message's out event and of its in event
abbrev pub sent_at : ℕ → List Happening → ℕ
sent_at m es = prefix_len (λ e. not (is_sent m e)) es

abbrev pub received_at : ℕ → List Happening → ℕ
received_at m es = prefix_len (λ e. not (is_received m e)) es

-- sender and receiver are two of n instances
abbrev pub joins : ℕ → Post → Bool
joins n p = nat_lt p.sender n && (nat_lt p.receiver n && not (p.sender == p.receiver))

-- no name stands among those before it
abbrev pub NamesApart : List Text → Type 0
NamesApart ts = (k : ℕ) → k < length ts → among (slice_index_or ts k []) (take k ts) ≡ false

abbrev pub message_names : Content → List Text
message_names c = map (λ p. p.name) c.messages

module _ (c : Content) where
  abbrev pub InstancesApart : Type 0
  InstancesApart = NamesApart c.instances

  abbrev pub MessagesApart : Type 0
  MessagesApart = NamesApart (message_names c)

  abbrev pub AllJoin : Type 0
  AllJoin = (m : ℕ) (d : Post) → m < length c.messages → joins (length c.instances) (slice_index_or c.messages m d) ≡ true

  abbrev pub Numbered : Type 0
  Numbered = numbered 0 c.events ≡ true

  abbrev pub AllSent : Type 0
  AllSent = count_by is_sending c.events ≡ length c.messages

  abbrev pub NoneTwice : Type 0
  NoneTwice = (m : ℕ) → m < length c.messages → count_by (is_received m) c.events ≤ 1

  abbrev pub AllReceived : Type 0
  AllReceived = (m : ℕ) → m < length c.messages → count_by (is_received m) c.events ≡ 1

  -- what follows from these: one out event for each message, above its in event, and no other message
  abbrev pub SentOnce : Type 0
  SentOnce = (m : ℕ) → m < length c.messages → count_by (is_sent m) c.events ≡ 1

  abbrev pub SentFirst : Type 0
  SentFirst = (m : ℕ) → m < length c.messages → sent_at m c.events < received_at m c.events

  abbrev pub Inside : Type 0
  Inside = (e : ℕ) (d : Happening) → e < length c.events → message_of (slice_index_or c.events e d) < length c.messages

-- a chart that a text can say
pub record WellFormed (c : Content) : Type 0 where
  pub titled : is_name c.title ≡ true
  pub some_instance : 0 < length c.instances
  pub few_instances : length c.instances ≤ 16
  pub few_messages : length c.messages ≤ 64
  pub instance_names : AllByRecursion (λ t. is_name t ≡ true) c.instances
  pub names_of_messages : AllByRecursion (λ t. is_name t ≡ true) (message_names c)
  pub instances_apart : InstancesApart c
  pub messages_apart : MessagesApart c
  pub all_join : AllJoin c
  pub is_numbered : Numbered c
  pub all_sent : AllSent c
  pub received_once : AllReceived c
