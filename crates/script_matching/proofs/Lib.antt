mod Lists
mod Around
