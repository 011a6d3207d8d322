mod Files
mod Lists
mod NodeParts
mod Roots
mod Searches
mod SystemLists
