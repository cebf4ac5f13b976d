-- The words after the program's name, and what they ask for.
use Rattle.std.specs.Prelude.{◌≡◌, ℕ, ◌&&◌, nat_le, if◌then◌else◌, List, [], ◌∷◌, length, codes, Option, Some, None}
use Rattle.std.specs.List.{list_all}
use Rattle.asgi_types.specs.Lengths.{is_digit, number_of}
use Rattle.asgi_crew.specs.declared.workers.Workers.{Workers}
use Rattle.asgi_command.specs.declared.words.App.{App}
use Rattle.asgi_command.specs.declared.words.App.TheVariants as app
use Rattle.asgi_command.specs.declared.words.Command.{Command}
use Rattle.asgi_command.specs.declared.words.Command.TheVariants.{Once, Serve}

-- the word that names an application
abbrev pub word_of : App → List ℕ
word_of app.Hello = codes "hello"
word_of app.Echo = codes "echo"
word_of app.NotFound = codes "notfound"
word_of app.WsEcho = codes "wsecho"
word_of app.Mounts = codes "mounts"
word_of app.Life = codes "life"
word_of app.NoStart = codes "nostart"
word_of app.NoStop = codes "nostop"

-- a number in a word: 1 to 5 digits, which may begin with zeros
abbrev pub number_of_word : List ℕ → Option ℕ
number_of_word word = if nat_le 1 (length word) && nat_le (length word) 5 && list_all is_digit word then Some (number_of word) else None

-- the number, if it is within these bounds
abbrev pub within : ℕ → ℕ → Option ℕ → Option ℕ
within least most None = None
within least most (Some n) = if nat_le least n && nat_le n most then Some n else None

abbrev pub number_in : ℕ → ℕ → List ℕ → Option ℕ
number_in least most word = within least most (number_of_word word)

-- the words are `once` and the name of this application
abbrev pub IsOnce : List (List ℕ) → App → Type 0
IsOnce words named = words ≡ codes "once" ∷ word_of named ∷ []

-- the number of workers: two, or the one that the one word gives
abbrev pub workers_of : List (List ℕ) → Option ℕ
workers_of [] = Some 2
workers_of (word ∷ []) = number_in 1 8 word
workers_of (word ∷ other ∷ words) = None

-- a port, a number of connections and the name of an application, in words, and this many workers
abbrev pub IsServeWith : (port count name : List ℕ) → ℕ → Command → Type 0
IsServeWith port count name workers (Once named) = ⊥
IsServeWith port count name workers (Serve p c named w) = (number_in 1 65535 port ≡ Some p) × (number_in 1 1000 count ≡ Some c) × (name ≡ word_of named) × (w.count ≡ workers)

-- the words are `serve`, these three, and perhaps the number of workers
abbrev pub IsServe : List (List ℕ) → Command → Type 0
IsServe words command = (port count name : List ℕ) × (rest : List (List ℕ)) × (workers : ℕ) × (words ≡ codes "serve" ∷ port ∷ count ∷ name ∷ rest)
    × (workers_of rest ≡ Some workers) × IsServeWith port count name workers command

-- the words ask to serve some connections of some port by this application and this many workers
abbrev pub IsServing : List (List ℕ) → App → ℕ → Type 0
IsServing words named workers = (port count : ℕ) × (w : Workers) × IsServe words (Serve port count named w) × (w.count ≡ workers)

-- the words ask to serve this port, and this many connections
abbrev pub IsServingAt : List (List ℕ) → ℕ → ℕ → Type 0
IsServingAt words port count = (named : App) × (w : Workers) × IsServe words (Serve port count named w)

-- the words ask for this
abbrev pub Asks : List (List ℕ) → Command → Type 0
Asks words (Once named) = IsOnce words named
Asks words (Serve port count named w) = IsServe words (Serve port count named w)
